-- The loop of `guide::listing::find`. Assumes nothing.
use Rattle.std.proofs.Common.{◌-◌, ◌≤◌, get_or}
use Rattle.rows.specs.Table.{table}
use Rattle.rows.specs.Tests.{Computes}
use Rattle.guide.proofs.NamedLaws.{Looks}
use Rattle.guide.proofs.listing.find.Given as goal

abbrev pub invariant-loop-s : goal.invariant-loop-s
invariant-loop-s g l = (l.s-index ≤ 2) × ((p : _) → Computes (goal.Q-post g l.q) p → Looks g.R.Listed.layout p (table l.rows l.marks) l.guide l.a l.b (2 - l.s-index) (get_or l.s-items l.s-index l.b) l.best)
