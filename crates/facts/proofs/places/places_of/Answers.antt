-- `facts::places::places_of` meets its contract. Assumes nothing.
use mathlib.Core.Path.{refl}
use Rattle.facts.specs.Table.{table, fact_of}
use Rattle.facts.specs.Classes.{class_a, class_b}
use Rattle.facts.proofs.Tested.{places_there}
use Rattle.facts.proofs.places.places_of.Goals as goal

pub returns : goal.returns
unfolding table fact_of class_a class_b
returns c = places_there _ _ c.letter.ensures refl refl refl refl refl c.as_places.ensures
