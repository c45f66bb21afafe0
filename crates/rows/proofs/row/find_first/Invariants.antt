-- The loop of `rows::row::find_first`. Assumes nothing.
use Rattle.std.proofs.Common.{◌≡◌, ◌≤◌}
use Rattle.rows.specs.Marks.{in_word}
use Rattle.rows.specs.Scan.{lowest}
use Rattle.rows.specs.Table.{passes, table}
use Rattle.rows.specs.Tests.{Computes}
use Rattle.rows.proofs.row.find_first.Given as goal

abbrev pub invariant-loop-i : goal.invariant-loop-i
invariant-loop-i g l = (l.i ≤ l.m) × ((p : _) → Computes (goal.Q-post g l.q) p → l.i ≡ lowest (in_word (passes g.R.Row.layout p (table l.rows l.marks)) l.w) l.i)
