-- The loop of `report::width_of`. Assumes nothing.
use mathlib.Core.Path.{◌≡◌}
use Prim.Native.Nat.{◌+◌, ◌*◌, ◌≤◌}
use lib.ListN.{length}
use Rattle.report.proofs.Parts.{rest}
use Rattle.report.proofs.width_of.Given as goal

abbrev pub invariant-loop-f : goal.invariant-loop-f
invariant-loop-f l = (l.w ≤ 84 * l.f-index) × (l.w + length (rest l.f-items l.f-index) ≡ length (rest l.f-items 0))
