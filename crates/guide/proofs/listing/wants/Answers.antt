-- `guide::listing::wants` meets its contract. Assumes nothing.
use mathlib.Core.Path.{sym, ◌∙◌}
use Rattle.guide.proofs.RowSteps.{wants_some, wants_none}
use Rattle.guide.proofs.listing.wants.Goals as goal

pub returns-in-Some : goal.returns-in-Some
returns-in-Some g c = wants_some g.R.Listed.layout _ g.R.Listed.first g.R.Listed.second _ _ _ _ _ (sym c.slot.ensures ∙ c.in-Some.is) c.first.ensures c.second.ensures

pub returns-in-None : goal.returns-in-None
returns-in-None g c = wants_none g.R.Listed.layout _ g.R.Listed.first g.R.Listed.second _ _ (sym c.slot.ensures ∙ c.in-None.is)
