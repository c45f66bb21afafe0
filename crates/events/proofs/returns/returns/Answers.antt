-- `events::returns::returns` meets its contract. Assumes nothing.
use mathlib.Core.Path.{ap}
use mathlib.Core.Bool.{not}
use mir.Facts.{to_z-of_z}
use Rattle.events.proofs.Signs.{zero_bits}
use Rattle.events.proofs.Following.{return_out, return_stays, return_goes}
use Rattle.events.proofs.Making.{handle_lowest, buffer_lowest}
use Rattle.events.proofs.Outcomes.{given_back}
use Rattle.events.proofs.returns.returns.Goals as goal

pub returns-then-not-in_turn-clause-outcome : goal.returns-then-not-in_turn-clause-outcome
returns-then-not-in_turn-clause-outcome c = λ led many. return_out _ _ _ _ _ _ _ _ _ _ _ c.is_closed.ensures c.in_turn.ensures (ap not c.if-not-in_turn.true)

pub returns-in_err-allows-clause-outcome : goal.returns-in_err-allows-clause-outcome
returns-in_err-allows-clause-outcome c = λ led many. return_stays _ _ _ _ _ _ _ _ _ _ _ c.is_closed.ensures c.in_turn.ensures _ _ _ (ap not c.if-not-in_turn.false) (c.returns-seen.ensures led) (zero_bits _ c.ranges.status) c.allows.ensures _ _ c.in_err-allows.was (given_back _ c.from_residual.ensures.1)

pub returns-clause-outcome : goal.returns-clause-outcome
returns-clause-outcome c = λ led many. return_goes _ _ _ _ _ _ _ _ _ _ _ c.is_closed.ensures c.in_turn.ensures _ _ _ (ap not c.if-not-in_turn.false) (c.returns-seen.ensures led) (zero_bits _ c.ranges.status) c.allows.ensures _ _ _ _ c.in_ok-allows.was (to_z-of_z c.ranges.status) c.capacity_asked-n.ensures c.returns.ensures.left c.findings.ensures

pub returns-clause-led : goal.returns-clause-led
returns-clause-led c = λ led. c.returns.ensures.led led (λ q i. handle_lowest _ _ _ _ _ (c.returns-seen.ensures led) q) (λ q i. buffer_lowest _ _ _ _ _ (c.returns-seen.ensures led) q)
