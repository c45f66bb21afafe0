-- The loop of `rows::marks::free_below`. Assumes nothing.
use Prim.Native.Nat.{◌*◌, ◌≤◌}
use mathlib.Core.Path.{◌≡◌}
use Rattle.rows.specs.Marks.{word}
use Rattle.rows.specs.Scan.{lowest}
use Rattle.rows.specs.Table.{most}
use Rattle.rows.specs.Frees.{free_at}
use Rattle.rows.proofs.marks.free_below.Given as goal

abbrev pub invariant-loop-w : goal.invariant-loop-w
invariant-loop-w l = (l.from ≤ l.w) × (l.w ≤ most) × (l.w * word ≡ lowest (free_at l.marks l.from) (l.w * word))
