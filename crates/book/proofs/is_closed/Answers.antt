-- `book::is_closed` meets its contract. Assumes nothing.
use Rattle.book.proofs.Steps.{closed_is}
use Rattle.book.proofs.is_closed.Goals as goal

pub returns : goal.returns
returns c = search closed_is
