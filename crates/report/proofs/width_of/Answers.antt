-- `report::width_of` meets its contract. The loop keeps that the bytes counted and those to come are all of them. Assumes nothing.
use mathlib.Core.Path.{ap}
use native.Mathlib.Omega.{arith}
use lib.ListN.{length}
use Rattle.words.specs.Lists.{joined}
use Rattle.history.specs.Report.{shown_finding}
use Rattle.report.specs.Shown.{shown_findings}
use Rattle.report.proofs.Parts.{rest_end}
use Rattle.report.proofs.width_of.Goals as goal

pub returns : goal.returns
unfolding shown_findings
returns c =
    let l = c.loop-f in
    let xs = c.listed-f-items.result.now in
    let all = ap (λ xs. length (joined xs shown_finding)) c.listed-f-items.ensures.0 in
    let e = ap length (rest_end xs l.f-index (omega arith)) in
    (omega (arith, all, l.invariant.1, e), omega (arith, c.listed-f-items.ensures.1, l.auto.f-index-end, l.invariant.0))
