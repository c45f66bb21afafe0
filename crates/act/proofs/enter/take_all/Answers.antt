-- `act::enter::take_all` meets its contract. Assumes nothing.
use borrow.Author.Rules.{rules}
use mathlib.Core.Path.{refl, ◌∙◌, ap}
use Rattle.tables.specs.Tables.{Tables}
use Rattle.tables.specs.Lent.{tables_of, with_references}
use Rattle.tables.proofs.Lending.{same_still, rows_again}
use Rattle.act.proofs.Taking.{rest_first, rest_next, rest_last}
use Rattle.act.proofs.enter.take_all.Goals as goal

pub loop-h-init : goal.loop-h-init
loop-h-init c = (search rules, λ led. (rest_first _ _ _ _ _, refl, led))

pub loop-h-preserved : goal.loop-h-preserved
loop-h-preserved c =
    let inv = c.loop-h.invariant in
    let step = c.take.ensures in (
      same_still step.same inv.0,
      λ led. let so = inv.1 led in let left = step.left so.2 in (
        rest_next _ _ _ _ _ _ _ _ c.loop-h-test.true so.0 (ap (λ (T : Tables). T.references) left),
        rows_again (tables_of c.args.lent.now) (tables_of c.loop-h.lent) _ _ so.1 left,
        step.led so.2,
      ),
    )

pub returns-clause-left : goal.returns-clause-left
returns-clause-left c = λ led. let so = c.loop-h.invariant.1 led in so.1 ∙ ap (with_references (tables_of c.args.lent.now)) (rest_last _ _ _ _ _ _ _ c.loop-h-test.false so.0)
