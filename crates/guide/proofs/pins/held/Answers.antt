-- `guide::pins::held` meets its contract. Assumes nothing.
use Rattle.guide.specs.Pins.{places}
use Rattle.guide.proofs.Steps.{number_of}
use Rattle.guide.proofs.pins.held.Goals as goal

pub returns : goal.returns
returns c = number_of c.args.guide.now places _ _ _ c.cell_of.ensures.0 c.number_at.ensures
