-- `act::call::end_top` meets its contract. Assumes nothing.
use Rattle.act.proofs.Calling.{frame_ended, no_frame_ended}
use Rattle.act.proofs.call.end_top.Goals as goal

pub returns-then-pops-clause-left : goal.returns-then-pops-clause-left
returns-then-pops-clause-left c = λ led. frame_ended _ _ _ _ c.pops.ensures _ _ c.if-pops.true c.frames_of-d.ensures.0 (c.end_frames.ensures.left led)

pub returns-else-pops-clause-left : goal.returns-else-pops-clause-left
returns-else-pops-clause-left c = λ led. no_frame_ended _ _ _ _ c.pops.ensures c.if-pops.false
