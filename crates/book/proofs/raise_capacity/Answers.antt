-- `book::raise_capacity` meets its contract. Assumes nothing.
use Rattle.book.proofs.Steps.{raise_none, raise_some}
use Rattle.book.proofs.raise_capacity.Goals as goal

pub returns-in_default : goal.returns-in_default
returns-in_default c = raise_none _ _ _ _ c.frames_of.ensures.0 c.in_default.ensures

pub returns : goal.returns
returns c = raise_some _ _ _ _ _ _ _ _ c.frames_of.ensures.0 c.in-Some.ensures c.top_capacity.ensures c.max-c.ensures c.store.ensures
