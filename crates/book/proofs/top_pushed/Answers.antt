-- `book::top_pushed` meets its contract. Assumes nothing.
use Rattle.book.proofs.Steps.{pushed_none, pushed_some}
use Rattle.book.proofs.top_pushed.Goals as goal

pub returns-in_default : goal.returns-in_default
returns-in_default c = pushed_none _ _ _ c.frames_of.ensures.0 c.in_default.ensures

pub returns : goal.returns
returns c = pushed_some _ _ _ _ _ c.frames_of.ensures.0 c.in-Some.ensures c.frame_pushed.ensures
