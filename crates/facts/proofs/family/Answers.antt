-- `facts::family` meets its contract. Assumes nothing.
use mathlib.Core.Path.{refl}
use Rattle.facts.specs.Table.{family}
use Rattle.facts.proofs.Tested.{family_there}
use Rattle.facts.proofs.family.Goals as goal

pub returns : goal.returns
unfolding family
returns c = family_there _ _ c.letter.ensures refl c.as_family.ensures
