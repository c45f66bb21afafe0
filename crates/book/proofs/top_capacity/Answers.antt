-- `book::top_capacity` meets its contract. Assumes nothing.
use Rattle.book.proofs.Steps.{capacity_none, capacity_some}
use Rattle.book.proofs.top_capacity.Goals as goal

pub returns-in_default : goal.returns-in_default
returns-in_default c = capacity_none _ _ _ c.frames_of.ensures.0 c.in_default.ensures

pub returns : goal.returns
returns c = capacity_some _ _ _ _ _ c.frames_of.ensures.0 c.in-Some.ensures c.number.ensures
