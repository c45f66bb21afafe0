-- `book::add_monitor` meets its contract. Assumes nothing.
use Rattle.book.proofs.Steps.{one_added}
use Rattle.book.proofs.add_monitor.Goals as goal

pub returns : goal.returns
returns c = search one_added
