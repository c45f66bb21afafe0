-- `act::end::end` meets its contract. Assumes nothing.
use Rattle.act.proofs.Whole.{closed}
use Rattle.act.proofs.end.end.Goals as goal

pub returns-clause-left : goal.returns-clause-left
returns-clause-left c = λ line n. closed _ _ _ line n c.set_closed.ensures c.count_line.ensures
