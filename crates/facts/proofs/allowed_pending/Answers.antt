-- `facts::allowed_pending` meets its contract. Assumes nothing.
use mathlib.Core.Path.{refl}
use Rattle.facts.specs.Table.{is_allowed_pending}
use Rattle.facts.proofs.Outside.{not_pending_outside}
use Rattle.facts.proofs.Tested.{mark_there}
use Rattle.facts.proofs.allowed_pending.Goals as goal

pub returns : goal.returns
unfolding is_allowed_pending
returns c = mark_there _ _ c.letter.ensures is_allowed_pending refl not_pending_outside
