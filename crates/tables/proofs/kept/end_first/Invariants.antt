-- The loop of `tables::kept::end_first`. Assumes nothing.
use Prim.Native.Nat.{◌*◌, ◌-◌, ◌≤◌}
use lib.ListN.{length}
use mathlib.Core.Path.{◌≡◌}
use Rattle.rows.specs.Marks.{word}
use Rattle.rows.specs.References.{from_frame, references}
use Rattle.rows.specs.Table.{ended_from, table}
use Rattle.guide.specs.Masks.{mark_bit}
use Rattle.guide.specs.References.{Guides}
use Rattle.tables.specs.Unshown.{Unshown}
use Rattle.tables.proofs.kept.end_first.Given as goal

abbrev pub invariant-loop-i : goal.invariant-loop-i
invariant-loop-i l = (l.i ≤ l.m) × (length l.rows ≡ length l.initial.rows) × (length l.marks ≡ length l.initial.marks) × (length l.guide ≡ length l.initial.guide)
    × (Unshown mark_bit l.own l.t l.f (table l.initial.rows l.initial.marks) → table l.rows l.marks ≡ ended_from references (from_frame l.t l.f) (table l.initial.rows l.initial.marks) (l.w * word) l.i)
    × (Guides (table l.initial.rows l.initial.marks) l.initial.guide → Guides (table l.rows l.marks) l.guide)

abbrev pub decreases-loop-i : goal.decreases-loop-i
decreases-loop-i l = l.m - l.i
