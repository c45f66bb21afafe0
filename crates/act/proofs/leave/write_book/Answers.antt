-- `act::leave::write_book` meets its contract. Assumes nothing.
use Rattle.act.proofs.Whole.{book_left}
use Rattle.act.proofs.leave.write_book.Goals as goal

pub returns : goal.returns
returns c = book_left _ _ _ _ c.leave_native.ensures c.count_line.ensures
