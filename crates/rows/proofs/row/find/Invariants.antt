-- The loop of `rows::row::find`. Assumes nothing.
use Rattle.std.proofs.Common.{◌≡◌, false, ◌≤◌, ◌*◌}
use Rattle.rows.specs.Marks.{word}
use Rattle.rows.specs.Scan.{lowest}
use Rattle.rows.specs.Table.{passes, table}
use Rattle.rows.specs.Tests.{Computes}
use Rattle.rows.proofs.row.find.Given as goal

abbrev pub invariant-loop-w : goal.invariant-loop-w
invariant-loop-w g l = (l.w ≤ l.full) × ((u p : _) → Computes (goal.O-post g l.o) u → Computes (goal.Q-post g l.q) p → ((x : _) → u x ≡ false → p x ≡ false)
    → l.w * word ≡ lowest (passes g.R.Row.layout p (table l.rows l.marks)) (l.w * word))
