-- `events::call::call` meets its contract. Assumes nothing.
use Rattle.events.proofs.Following.{call_stays, call_goes}
use Rattle.events.proofs.Outcomes.{given_back}
use Rattle.events.proofs.call.call.Goals as goal

pub returns-in_err-allows-clause-outcome : goal.returns-in_err-allows-clause-outcome
returns-in_err-allows-clause-outcome c = λ led n. call_stays _ _ _ _ _ _ _ _ _ _ _ _ _ c.is_closed.ensures c.allows.ensures _ _ c.in_err-allows.was (given_back _ c.from_residual.ensures.1)

pub returns-clause-outcome : goal.returns-clause-outcome
returns-clause-outcome c = λ led n. call_goes _ _ _ _ _ _ _ _ _ _ _ _ _ c.is_closed.ensures c.allows.ensures _ _ _ c.in_ok-allows.was (c.call-seen.ensures led) (c.call.ensures.left led) c.findings.ensures
