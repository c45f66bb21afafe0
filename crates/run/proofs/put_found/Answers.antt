-- `run::put_found` meets its contract. Assumes nothing.
use Rattle.run.proofs.Ways.{none_shown}
use Rattle.run.proofs.put_found.Goals as goal

pub returns-then-found-eq0 : goal.returns-then-found-eq0
returns-then-found-eq0 c = let a = c.args in none_shown _ a.at a.found c.if-found-eq0.true
