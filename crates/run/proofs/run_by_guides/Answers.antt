-- `run::run_by_guides` meets its contract. Assumes nothing.
use Rattle.run.proofs.Filling.{led, pins_led}
use Rattle.run.proofs.run_by_guides.Goals as goal

pub run_on-requires : goal.run_on-requires
run_on-requires c = (record { references = led _ _ c.fill.ensures.references; pins = pins_led _ _ c.fill.ensures.pins }, c.requires)
