-- `act::returns::write_book` meets its contract. Assumes nothing.
use mir.Facts.{to_z-of_z}
use Rattle.act.proofs.Returning.{book_returned}
use Rattle.act.proofs.returns.write_book.Goals as goal

pub returns-clause-left : goal.returns-clause-left
returns-clause-left c = book_returned _ _ _ _ _ _ _ _ _ _ (to_z-of_z c.ranges.status) c.take_status.ensures.left c.set_pending.ensures c.count_line.ensures
