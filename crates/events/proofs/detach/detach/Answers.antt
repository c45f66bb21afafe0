-- `events::detach::detach` meets its contract. Assumes nothing.
use Rattle.events.proofs.Following.{detach_stays, detach_goes}
use Rattle.events.proofs.Outcomes.{given_back}
use Rattle.events.proofs.detach.detach.Goals as goal

pub returns-in_err-allows-clause-outcome : goal.returns-in_err-allows-clause-outcome
returns-in_err-allows-clause-outcome c = λ led many. detach_stays _ _ _ _ _ _ _ c.is_closed.ensures c.allows.ensures _ _ c.in_err-allows.was (given_back _ c.from_residual.ensures.1)

pub returns-clause-outcome : goal.returns-clause-outcome
returns-clause-outcome c = λ led many. detach_goes _ _ _ _ _ _ _ c.is_closed.ensures c.allows.ensures _ _ _ c.in_ok-allows.was (c.detach-seen.ensures led) (c.detach.ensures.left led _) c.findings.ensures
