-- `facts::identities::wanted_of` meets its contract. Assumes nothing.
use mathlib.Core.Path.{refl}
use Rattle.facts.specs.Identities.{wanted_of}
use Rattle.facts.proofs.Tested.{wanted_there}
use Rattle.facts.proofs.identities.wanted_of.Goals as goal

pub returns : goal.returns
unfolding wanted_of
returns c = wanted_there _ _ c.letter.ensures refl c.as_wanted.ensures
