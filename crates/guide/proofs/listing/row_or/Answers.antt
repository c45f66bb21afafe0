-- `guide::listing::row_or` meets its contract. Assumes nothing.
use mathlib.Core.Path.{sym, ◌∙◌}
use Rattle.guide.proofs.NamedLaws.{row_that, row_other, row_none}
use Rattle.guide.proofs.listing.row_or.Goals as goal

pub returns-then-q : goal.returns-then-q
returns-then-q g c = λ p e. row_that p _ _ _ _ (sym c.slot.ensures ∙ c.in-Some.is) (sym (e _ _ c.q.ensures) ∙ c.if-q.true)

pub returns-else-q : goal.returns-else-q
returns-else-q g c = λ p e. row_other p _ _ _ _ (sym c.slot.ensures ∙ c.in-Some.is) (sym (e _ _ c.q.ensures) ∙ c.if-q.false)

pub returns-in-None : goal.returns-in-None
returns-in-None g c = λ p e. row_none p _ _ _ (sym c.slot.ensures ∙ c.in-None.is)
