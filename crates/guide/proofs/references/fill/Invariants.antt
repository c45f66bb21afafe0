-- The loop of `guide::references::fill`. Assumes nothing.
use mathlib.Core.Path.{◌≡◌}
use Prim.Native.Nat.{◌≤◌}
use lib.ListN.{length}
use Rattle.rows.specs.Table.{table}
use Rattle.guide.specs.References.{filled}
use Rattle.guide.proofs.references.fill.Given as goal

abbrev pub invariant-loop-r : goal.invariant-loop-r
invariant-loop-r l = (l.r ≤ l.n) × (length l.guide ≡ length l.initial.guide) × (l.guide ≡ filled (table l.rows l.marks) l.initial.guide l.r)
