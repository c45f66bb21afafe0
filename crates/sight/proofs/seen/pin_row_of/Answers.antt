-- `sight::seen::pin_row_of` meets its contract. Assumes nothing.
use Rattle.sight.proofs.LeadLaws.{pin_row_found}
use Rattle.sight.proofs.seen.pin_row_of.Goals as goal

pub returns : goal.returns
returns c = λ led. pin_row_found _ _ _ _ _ _ led c.find.ensures
