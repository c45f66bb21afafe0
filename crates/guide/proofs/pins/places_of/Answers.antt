-- `guide::pins::places_of` meets its contract. Assumes nothing.
use Rattle.guide.proofs.PinSteps.{first_is, second_is}
use Rattle.guide.proofs.pins.places_of.Goals as goal

pub returns : goal.returns
returns c = (first_is _ _ _ _ c.spread-s.ensures, second_is _ _ _ _ c.spread-s.ensures)
