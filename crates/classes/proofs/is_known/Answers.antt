-- `classes::is_known` meets its contract. Assumes nothing.
use Rattle.classes.proofs.Steps.{known_or_not}
use Rattle.classes.proofs.is_known.Goals as goal

pub returns : goal.returns
returns c = known_or_not _ _ _ _ c.is_reserved.ensures c.super_of.ensures
