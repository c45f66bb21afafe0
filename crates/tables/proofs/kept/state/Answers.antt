-- `tables::kept::state` meets its contract. Assumes nothing.
use Rattle.tables.proofs.Keeping.{state_led}
use Rattle.tables.proofs.kept.state.Goals as goal

pub returns-clause-led : goal.returns-clause-led
returns-clause-led c = λ led. record { references = state_led _ _ _ _ _ led.references c.state_row.ensures; pins = led.pins }
