-- `sight::seen::lowest_free` meets its contract. Assumes nothing.
use Rattle.sight.proofs.LeadLaws.{lowest_found}
use Rattle.sight.proofs.seen.lowest_free.Goals as goal

pub returns : goal.returns
returns c = λ led. lowest_found _ _ _ led c.lowest_free.ensures
