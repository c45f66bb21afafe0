-- `guide::references::forget` meets its contract. Assumes nothing.
use mathlib.Core.Path.{sym, ◌∙◌}
use Rattle.guide.proofs.ReferenceSteps.{forgotten_row, forgotten_none}
use Rattle.guide.proofs.references.forget.Goals as goal

pub returns-in-Some : goal.returns-in-Some
returns-in-Some c = forgotten_row _ _ _ _ _ _ _ _ (sym c.slot.ensures ∙ c.in-Some.is) c.cell_of.ensures.0 c.less.ensures c.less-in-Some.ensures c.lower.ensures

pub returns-in_default : goal.returns-in_default
returns-in_default c = forgotten_none _ _ _ (sym c.slot.ensures ∙ c.in_default.is)
