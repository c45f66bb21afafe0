-- `book::set_closed` meets its contract. Assumes nothing.
use Rattle.book.proofs.Steps.{closed_stored}
use Rattle.book.proofs.set_closed.Goals as goal

pub returns : goal.returns
returns c = search closed_stored
