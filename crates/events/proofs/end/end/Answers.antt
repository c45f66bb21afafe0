-- `events::end::end` meets its contract. Assumes nothing.
use Rattle.events.proofs.Following.{end_stays, end_goes}
use Rattle.events.proofs.end.end.Goals as goal

pub returns-then-is_closed-clause-outcome : goal.returns-then-is_closed-clause-outcome
returns-then-is_closed-clause-outcome c = λ top many. end_stays _ _ _ c.is_closed.ensures top many c.if-is_closed.true

pub returns-clause-outcome : goal.returns-clause-outcome
returns-clause-outcome c = λ top many. end_goes _ _ _ c.is_closed.ensures top many _ _ _ c.if-is_closed.false c.end-seen.ensures (c.end.ensures.left _) c.findings.ensures
