-- `classes::leads` meets its contract. Assumes nothing.
use Rattle.std.proofs.Common.{◌≡◌, ◌+◌, ◌-◌, refl, ◌∙◌, arith}
use Rattle.history.specs.Classes.{most_looks}
use Rattle.classes.proofs.Steps.{lead_here, lead_ends, lead_next, lead_none}
use Rattle.classes.proofs.leads.Goals as goal

pub loop-init : goal.loop-init
loop-init c = refl

pub returns-then-at-k : goal.returns-then-at-k
returns-then-at-k c = lead_here _ _ _ _ (omega arith) c.if-at-k.true ∙ c.loop.invariant

pub returns-then-at-eq-NONE : goal.returns-then-at-eq-NONE
returns-then-at-eq-NONE c = lead_ends _ _ _ _ c.if-at-k.false c.if-at-eq-NONE.true ∙ c.loop.invariant

pub loop-preserved : goal.loop-preserved
loop-preserved c =
    let e : most_looks - (c.loop.counter + 1) ≡ most_looks - c.loop.counter - 1 = omega arith in
    rw e (lead_next _ _ _ (most_looks - c.loop.counter) _ (omega arith) c.if-at-k.false c.if-at-eq-NONE.false c.above-at.ensures ∙ c.loop.invariant)

pub returns : goal.returns
returns c = lead_none _ _ _ _ (omega arith) ∙ c.loop.invariant
