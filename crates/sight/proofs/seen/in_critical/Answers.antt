-- `sight::seen::in_critical` meets its contract. Assumes nothing.
use Rattle.tables.proofs.Sights.{critical_found, no_critical_found}
use Rattle.sight.proofs.LeadLaws.{thread_held}
use Rattle.sight.proofs.seen.in_critical.Goals as goal

pub returns-then-t-eq0 : goal.returns-then-t-eq0
returns-then-t-eq0 c = λ led. no_critical_found _ _ c.if-t-eq0.true

pub returns-then-is_empty-t : goal.returns-then-is_empty-t
returns-then-is_empty-t c = λ led. critical_found _ _ _ c.if-t-eq0.false c.outstanding.ensures

pub returns : goal.returns
returns c = λ led. critical_found _ _ _ c.if-t-eq0.false (thread_held _ _ _ _ _ c.is_empty.ensures led c.if-is_empty-t.false c.held.ensures)
