-- `book::set_pending` meets its contract. Assumes nothing.
use Rattle.book.proofs.Steps.{pending_stored}
use Rattle.book.proofs.set_pending.Goals as goal

pub returns : goal.returns
returns c = search pending_stored
