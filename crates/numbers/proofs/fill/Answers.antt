-- `numbers::fill` meets its contract; the loop keeps what there will be once the digits of the rest are written too, the last of them before i. Assumes nothing.
use native.Mathlib.Omega.{arith}
use Rattle.numbers.proofs.Put.{fill_out, one_filled, filled}
use Rattle.numbers.proofs.fill.Goals as goal

pub loop-i-init : goal.loop-i-init
loop-i-init c = fill_out _ _ _ (omega arith)

pub loop-i-preserved : goal.loop-i-preserved
loop-i-preserved c = one_filled c.loop-i.invariant (omega arith) (omega arith)

pub returns : goal.returns
returns c = (omega arith, filled c.loop-i.invariant (omega arith))
