-- `book::take_monitor` meets its contract. Assumes nothing.
use Rattle.book.proofs.Steps.{one_taken}
use Rattle.book.proofs.take_monitor.Goals as goal

pub returns : goal.returns
returns c = search one_taken
