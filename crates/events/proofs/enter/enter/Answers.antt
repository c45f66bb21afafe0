-- `events::enter::enter` meets its contract. Assumes nothing.
use mathlib.Core.Path.{ap}
use mathlib.Core.Bool.{not}
use Rattle.events.proofs.Following.{enter_out, enter_stays, enter_goes}
use Rattle.events.proofs.Outcomes.{given_back}
use Rattle.events.proofs.enter.enter.Goals as goal

pub returns-then-not-in_turn-clause-outcome : goal.returns-then-not-in_turn-clause-outcome
returns-then-not-in_turn-clause-outcome c = λ led. enter_out _ _ _ _ _ _ _ _ _ c.is_closed.ensures c.in_turn.ensures (ap not c.if-not-in_turn.true)

pub returns-in_err-allows-clause-outcome : goal.returns-in_err-allows-clause-outcome
returns-in_err-allows-clause-outcome c = λ led. enter_stays _ _ _ _ _ _ _ _ _ c.is_closed.ensures c.in_turn.ensures _ _ (ap not c.if-not-in_turn.false) (c.enter-seen.ensures led) c.allows.ensures _ _ c.in_err-allows.was (given_back _ c.from_residual.ensures.1)

pub returns-clause-outcome : goal.returns-clause-outcome
returns-clause-outcome c = λ led. enter_goes _ _ _ _ _ _ _ _ _ c.is_closed.ensures c.in_turn.ensures _ _ (ap not c.if-not-in_turn.false) (c.enter-seen.ensures led) c.allows.ensures _ _ c.in_ok-allows.was c.none.ensures (c.enter.ensures.left led)
