-- `tables::kept_pins::end_row` meets its contract. Assumes nothing.
use Rattle.tables.proofs.Keeping.{end_pin_led}
use Rattle.tables.proofs.kept_pins.end_row.Goals as goal

pub returns-clause-led : goal.returns-clause-led
returns-clause-led c = λ leads. end_pin_led _ _ _ _ _ leads c.forget.ensures c.end.ensures c.forget.auto.guide
