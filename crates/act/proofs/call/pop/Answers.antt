-- `act::call::pop` meets its contract. Assumes nothing.
use Rattle.act.proofs.Calling.{frame_gone, frame_stays}
use Rattle.act.proofs.call.pop.Goals as goal

pub returns-then-f-eq-POP_LOCAL_FRAME : goal.returns-then-f-eq-POP_LOCAL_FRAME
returns-then-f-eq-POP_LOCAL_FRAME c = frame_gone _ _ _ _ c.if-f-eq-POP_LOCAL_FRAME.true c.pop_frame.ensures

pub returns-else-f-eq-POP_LOCAL_FRAME : goal.returns-else-f-eq-POP_LOCAL_FRAME
returns-else-f-eq-POP_LOCAL_FRAME c = frame_stays _ _ _ c.if-f-eq-POP_LOCAL_FRAME.false
