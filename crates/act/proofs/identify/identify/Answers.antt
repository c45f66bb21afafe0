-- `act::identify::identify` meets its contract. Assumes nothing.
use Rattle.act.proofs.Stating.{tables_identified}
use Rattle.act.proofs.identify.identify.Goals as goal

pub returns-clause-left : goal.returns-clause-left
returns-clause-left c = tables_identified _ _ _ _ _ _ _ _ c.put.ensures c.count_line.ensures
