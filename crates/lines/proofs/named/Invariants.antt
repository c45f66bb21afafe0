-- The loop of `lines::named`. Assumes nothing.
use mathlib.Core.Path.{◌≡◌}
use Prim.Native.Nat.{◌-◌, ◌≤◌}
use lib.ListN.{length, take}
use Rattle.lines.specs.Events.{padded}
use Rattle.lines.specs.Sizes.{named}
use Rattle.lines.proofs.named.Given as goal

abbrev pub invariant-loop-i : goal.invariant-loop-i
invariant-loop-i l = (length l.v ≡ 10) × (length l.h ≡ 8) × (l.i ≤ l.n) × (l.h ≡ padded (take (l.i - 2) (named l.n l.v)))
