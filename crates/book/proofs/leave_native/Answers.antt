-- `book::leave_native` meets its contract. Assumes nothing.
use Rattle.book.proofs.Steps.{leave_all}
use Rattle.book.proofs.leave_native.Goals as goal

pub returns : goal.returns
returns c = search leave_all
