-- The loop of `report::put_each`. Assumes nothing.
use mathlib.Core.Path.{◌≡◌}
use Prim.Native.Nat.{◌+◌}
use lib.ListN.{length}
use Rattle.numbers.specs.Writing.{put}
use Rattle.report.proofs.Parts.{rest}
use Rattle.report.proofs.put_each.Given as goal

abbrev pub invariant-loop-f : goal.invariant-loop-f
invariant-loop-f l = (l.at + length (rest l.f-items l.f-index) ≡ l.from + length (rest l.f-items 0)) × (put l.d l.at (rest l.f-items l.f-index) ≡ put l.initial.d l.from (rest l.f-items 0)) × (length l.d ≡ length l.initial.d)
