-- `act::state::state` meets its contract. Assumes nothing.
use Rattle.act.proofs.Stating.{tables_stated}
use Rattle.act.proofs.state.state.Goals as goal

pub returns-clause-left : goal.returns-clause-left
returns-clause-left c = tables_stated _ _ _ _ _ c.state.ensures.left c.count_line.ensures
