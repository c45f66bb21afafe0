-- The loop of `rows::marks::used_below`. Assumes nothing.
use Prim.Native.Nat.{◌*◌, ◌≤◌}
use mathlib.Core.Path.{◌≡◌}
use Rattle.rows.specs.Marks.{used, word}
use Rattle.rows.specs.Scan.{how_many}
use Rattle.rows.proofs.marks.used_below.Given as goal

abbrev pub invariant-loop-w : goal.invariant-loop-w
invariant-loop-w l = (l.w ≤ l.full) × (l.sum ≤ l.w * word) × (l.sum ≡ how_many (used l.marks) (l.w * word))
