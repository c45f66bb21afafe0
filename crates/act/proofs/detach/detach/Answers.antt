-- `act::detach::detach` meets its contract. Assumes nothing.
use Rattle.act.proofs.Whole.{detached}
use Rattle.act.proofs.detach.detach.Goals as goal

pub returns-clause-left : goal.returns-clause-left
returns-clause-left c = λ led line n. detached _ _ _ line n _ (c.end_frames.ensures.left led) c.write_book.ensures
