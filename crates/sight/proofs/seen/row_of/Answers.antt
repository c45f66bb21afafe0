-- `sight::seen::row_of` meets its contract. Assumes nothing.
use Rattle.sight.proofs.LeadLaws.{row_found}
use Rattle.sight.proofs.seen.row_of.Goals as goal

pub returns : goal.returns
returns c = λ led. row_found _ _ _ _ _ led c.find.ensures
