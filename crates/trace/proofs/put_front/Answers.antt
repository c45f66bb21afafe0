-- `trace::put_front` meets its contract. Assumes nothing.
use native.Mathlib.Omega.{arith}
use Rattle.trace.proofs.Putting.{front_nowhere, front_there}
use Rattle.trace.proofs.put_front.Goals as goal

pub returns-then-out-at : goal.returns-then-out-at
returns-then-out-at c = front_nowhere _ _ _ _ c.requires.1 c.if-out-at.true

pub returns : goal.returns
returns c = front_there _ _ _ _ c.requires.1 (omega (arith, c.if-out-at.false)) c.copy_from_slice.ensures.after
