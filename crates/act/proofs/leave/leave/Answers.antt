-- `act::leave::leave` meets its contract. Assumes nothing.
use Rattle.act.proofs.Whole.{left}
use Rattle.act.proofs.leave.leave.Goals as goal

pub returns-clause-left : goal.returns-clause-left
returns-clause-left c = λ led line n r. left _ _ _ line n _ r _ c.frames_left-d.ensures.0 (c.end_frames.ensures.left led) c.write_book.ensures
