-- The loop of `edges::decode` has put fewer bytes than it has passed, and passes no more than fit. Assumes nothing.
use Prim.Native.Nat.{◌-◌, ◌≤◌, ◌<◌}
use mathlib.Core.Path.{◌≡◌}
use lib.ListN.{length}
use Rattle.edges.proofs.decode.Given as goal

abbrev pub invariant-loop-from : goal.invariant-loop-from
invariant-loop-from l = (l.n < l.from) × (l.n ≤ length l.s) × (length l.s ≤ length l.line) × (length l.line ≡ length l.initial.line)

abbrev pub decreases-loop-from : goal.decreases-loop-from
decreases-loop-from l = length l.s - l.from
