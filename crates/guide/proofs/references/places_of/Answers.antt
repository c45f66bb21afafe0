-- `guide::references::places_of` meets its contract. Assumes nothing.
use Rattle.guide.proofs.ReferenceSteps.{first_is, second_is}
use Rattle.guide.proofs.references.places_of.Goals as goal

pub returns : goal.returns
returns c = (first_is _ _ _ c.spread-s.ensures, second_is _ _ _ c.spread-s.ensures)
