-- `tables::kept::end` meets its contract. Assumes nothing.
use Rattle.tables.proofs.Keeping.{end_led}
use Rattle.tables.proofs.kept.end.Goals as goal

pub returns-clause-led : goal.returns-clause-led
returns-clause-led c = λ led. record { references = end_led _ _ _ _ _ led.references c.end_row.ensures.guide c.end_row.ensures.left c.end_row.auto.guide; pins = led.pins }
