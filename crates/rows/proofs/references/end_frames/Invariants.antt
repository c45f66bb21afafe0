-- The loop of `rows::references::end_frames`. Assumes nothing.
use Prim.Native.Nat.{◌*◌, ◌≤◌}
use lib.ListN.{length}
use mathlib.Core.Path.{◌≡◌}
use Rattle.rows.specs.Marks.{word}
use Rattle.rows.specs.References.{from_frame, references}
use Rattle.rows.specs.Table.{ended_from, table}
use Rattle.rows.proofs.references.end_frames.Given as goal

abbrev pub invariant-loop-w : goal.invariant-loop-w
invariant-loop-w l = (l.w ≤ l.full) × (length l.rows ≡ length l.initial.rows) × (length l.marks ≡ length l.initial.marks) × (table l.rows l.marks ≡ ended_from references (from_frame l.t l.f) (table l.initial.rows l.initial.marks) 0 (l.w * word))
