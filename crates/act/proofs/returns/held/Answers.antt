-- `act::returns::held` meets its contract. Assumes nothing.
use Rattle.act.proofs.Counting.{none_held, held_counted, held_most}
use native.Mathlib.Omega.{arith}
use Rattle.act.proofs.returns.held.Goals as goal

pub returns-then-t-eq0 : goal.returns-then-t-eq0
returns-then-t-eq0 c = (none_held _ _ _ c.if-t-eq0.true, omega arith)

pub returns : goal.returns
returns c = (held_counted _ _ _ _ _ c.if-t-eq0.false c.frames_of-d.ensures.0 c.count.ensures, held_most _ _ _ _ c.count.ensures)
