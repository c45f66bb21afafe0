-- `act::returns::returns` meets its contract. Assumes nothing.
use mir.Facts.{to_z-of_z}
use Rattle.act.proofs.Returning.{all_returned}
use Rattle.act.proofs.returns.returns.Goals as goal

pub returns-clause-left : goal.returns-clause-left
returns-clause-left c = all_returned _ _ _ _ _ _ _ _ _ _ _ _ _ _ _ c.frames_of-d.ensures.0 (to_z-of_z c.ranges.status) c.write_book.ensures.left c.make.ensures.left c.get.ensures.left
