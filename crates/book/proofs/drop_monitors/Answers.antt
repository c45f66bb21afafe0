-- `book::drop_monitors` meets its contract. Assumes nothing.
use Rattle.book.proofs.Steps.{all_dropped}
use Rattle.book.proofs.drop_monitors.Goals as goal

pub returns : goal.returns
returns c = search all_dropped
