-- `events::identify::identify` meets its contract. Assumes nothing.
use Rattle.events.proofs.Following.{identify_stays, identify_goes}
use Rattle.events.proofs.Outcomes.{given_back}
use Rattle.events.proofs.identify.identify.Goals as goal

pub returns-in_err-allows-clause-outcome : goal.returns-in_err-allows-clause-outcome
returns-in_err-allows-clause-outcome c = λ line top many. identify_stays _ _ _ _ _ _ _ _ _ _ _ _ c.is_closed.ensures c.identify-seen.ensures c.allows.ensures _ _ c.in_err-allows.was (given_back _ c.from_residual.ensures.1)

pub returns-clause-outcome : goal.returns-clause-outcome
returns-clause-outcome c = λ line top many. identify_goes _ _ _ _ _ _ _ _ _ _ _ _ c.is_closed.ensures c.identify-seen.ensures c.allows.ensures _ _ c.in_ok-allows.was c.none.ensures c.identify.ensures.left
