-- `tables::kept_pins::store_row` meets its contract. Assumes nothing.
use Rattle.tables.proofs.Keeping.{store_pin_led}
use Rattle.tables.proofs.kept_pins.store_row.Goals as goal

pub returns-clause-led : goal.returns-clause-led
returns-clause-led c = λ leads lowest. store_pin_led _ _ _ _ _ _ leads lowest c.store.ensures c.note.ensures c.note.auto.guide
