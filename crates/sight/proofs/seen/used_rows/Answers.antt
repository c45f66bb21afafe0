-- `sight::seen::used_rows` meets its contract. Assumes nothing.
use Rattle.sight.proofs.LeadLaws.{rows_used}
use Rattle.sight.proofs.seen.used_rows.Goals as goal

pub returns : goal.returns
returns c = λ led. rows_used _ _ _ _ c.is_empty.ensures led c.if-is_empty.false c.used.ensures
