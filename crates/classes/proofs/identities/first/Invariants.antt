-- The loop of `classes::identities::first`. Assumes nothing.
use Prim.Native.Nat.{◌-◌, ◌≤◌}
use mathlib.Core.Path.{◌≡◌}
use Rattle.classes.specs.Identities.{first_from, is_for}
use Rattle.classes.proofs.identities.first.Given as goal

abbrev pub invariant-loop-i : goal.invariant-loop-i
invariant-loop-i l = (l.i ≤ l.to) × (first_from (is_for l.table l.x) l.i (l.to - l.i) ≡ first_from (is_for l.table l.x) l.from (l.to - l.from))
