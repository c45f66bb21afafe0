-- `act::declare::declare` meets its contract. Assumes nothing.
use Rattle.act.proofs.Whole.{declared}
use Rattle.act.proofs.declare.declare.Goals as goal

pub returns-clause-left : goal.returns-clause-left
returns-clause-left c = λ line n. declared _ _ _ line n _ _ c.declare.ensures c.count_line.ensures
