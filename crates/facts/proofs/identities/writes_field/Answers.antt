-- `facts::identities::writes_field` meets its contract. Assumes nothing.
use mathlib.Core.Path.{refl}
use Rattle.facts.specs.Identities.{writes_field}
use Rattle.facts.proofs.Tested.{written_there}
use Rattle.facts.proofs.identities.writes_field.Goals as goal

pub returns : goal.returns
unfolding writes_field
returns c = written_there _ _ c.letter-l.ensures refl
