-- The loop of `rows::row::matching`. Assumes nothing.
use Rattle.std.proofs.Common.{◌≡◌, ◌≤◌}
use Rattle.rows.specs.Marks.{in_word, word}
use Rattle.rows.specs.Scan.{how_many}
use Rattle.rows.specs.Table.{matches}
use Rattle.rows.specs.Tests.{Computes}
use Rattle.rows.proofs.row.matching.Given as goal

abbrev pub invariant-loop-i : goal.invariant-loop-i
invariant-loop-i g l = (l.i ≤ word) × (l.sum ≤ l.i) × ((p : _) → Computes (goal.Q-post g l.q) p → l.sum ≡ how_many (in_word (matches g.R.Row.layout p l.rows) l.w) l.i)
