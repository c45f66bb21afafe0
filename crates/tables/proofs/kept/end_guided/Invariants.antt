-- The loop of `tables::kept::end_guided`. Assumes nothing.
use Prim.Native.Nat.{◌*◌, ◌-◌, ◌≤◌}
use lib.ListN.{length}
use mathlib.Core.Path.{◌≡◌}
use Rattle.rows.specs.Marks.{word}
use Rattle.rows.specs.References.{from_frame, references}
use Rattle.rows.specs.Table.{ended_from, table}
use Rattle.guide.specs.References.{Guides}
use Rattle.tables.proofs.kept.end_guided.Given as goal

abbrev pub invariant-loop-w : goal.invariant-loop-w
invariant-loop-w l = (l.w ≤ l.full) × (length l.rows ≡ length l.initial.rows) × (length l.marks ≡ length l.initial.marks) × (length l.guide ≡ length l.initial.guide)
    × (Guides (table l.initial.rows l.initial.marks) l.initial.guide → (table l.rows l.marks ≡ ended_from references (from_frame l.t l.f) (table l.initial.rows l.initial.marks) 0 (l.w * word)) × Guides (table l.rows l.marks) l.guide)

abbrev pub decreases-loop-w : goal.decreases-loop-w
decreases-loop-w l = l.full - l.w
