-- `report::put_each` meets its contract. The loop keeps that what stands there with the findings to come is all of them put. Assumes nothing.
use mathlib.Core.Path.{ap, sym, ◌∙◌}
use native.Mathlib.Omega.{arith}
use lib.ListN.{length}
use Rattle.words.specs.Lists.{joined}
use Rattle.history.specs.Report.{shown_finding}
use Rattle.numbers.specs.Writing.{put}
use Rattle.numbers.proofs.Put.{put_none}
use Rattle.report.specs.Shown.{shown_findings}
use Rattle.report.proofs.Parts.{length_parts, rest_next, rest_end, put_on, fills_as}
use Rattle.report.proofs.put_each.Goals as goal

pub put_finding-at-requires : goal.put_finding-at-requires
unfolding shown_findings
put_finding-at-requires c =
    let l = c.loop-f in
    let xs = c.listed-f-items.result.now in
    let all = ap (λ xs. length (joined xs shown_finding)) c.listed-f-items.ensures.0 in
    omega (arith, c.requires, all, length_parts (rest_next xs l.f-index (omega arith)), l.invariant.0, l.invariant.2)

pub loop-f-preserved : goal.loop-f-preserved
loop-f-preserved c =
    let l = c.loop-f in
    let f = c.put_finding-at in
    let parts = rest_next c.listed-f-items.result.now l.f-index (omega arith) in (
      omega (arith, length_parts parts, f.ensures.past, l.invariant.0),
      put_on parts f.ensures ∙ l.invariant.1,
      f.auto.d ∙ l.invariant.2,
    )

pub returns : goal.returns
unfolding shown_findings
returns c =
    let l = c.loop-f in
    let xs = c.listed-f-items.result.now in
    let none = rest_end xs l.f-index (omega arith) in
    let all = ap (λ xs. joined xs shown_finding) c.listed-f-items.ensures.0 in
    fills_as (sym all)
    (record {
      fits = omega (arith, c.requires, ap length all);
      past = omega (arith, l.invariant.0, ap length none);
      left = sym (put_none l.d l.at) ∙ ap (put l.d l.at) (sym none) ∙ l.invariant.1;
    })
