-- `judge::start` meets its contract. Assumes nothing.
use Rattle.judge.proofs.ByTables.{all_cleared}
use Rattle.judge.proofs.start.Goals as goal

pub returns : goal.returns
returns c = all_cleared _ _ _ _ _ _ _ _ _ _ _ _ c.clear.ensures c.clear-2.ensures c.clear-3.ensures c.clear-4.ensures
