-- The loop of `rows::references::count`. Assumes nothing.
use Prim.Native.Nat.{◌*◌, ◌≤◌}
use mathlib.Core.Path.{◌≡◌}
use Rattle.rows.specs.Marks.{word}
use Rattle.rows.specs.References.{in_frame, references}
use Rattle.rows.specs.Scan.{how_many}
use Rattle.rows.specs.Table.{passes, table}
use Rattle.rows.proofs.references.count.Given as goal

abbrev pub invariant-loop-w : goal.invariant-loop-w
invariant-loop-w l = (l.w ≤ l.full) × (l.sum ≤ l.w * word) × (l.sum ≡ how_many (passes references (in_frame l.t l.f) (table l.rows l.marks)) (l.w * word))
