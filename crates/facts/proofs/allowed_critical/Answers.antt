-- `facts::allowed_critical` meets its contract. Assumes nothing.
use mathlib.Core.Path.{refl}
use Rattle.facts.specs.Table.{is_allowed_critical}
use Rattle.facts.proofs.Outside.{not_critical_outside}
use Rattle.facts.proofs.Tested.{mark_there}
use Rattle.facts.proofs.allowed_critical.Goals as goal

pub returns : goal.returns
unfolding is_allowed_critical
returns c = mark_there _ _ c.letter.ensures is_allowed_critical refl not_critical_outside
