-- `run::heard` meets its contract. Assumes nothing.
use mathlib.Core.Path.{refl}
use Rattle.run.specs.Way.{line_refused}
use Rattle.run.proofs.Ways.{goes_on}
use Rattle.run.proofs.heard.Goals as goal

pub returns-in-Err : goal.returns-in-Err
returns-in-Err c = line_refused _ c.in-Err.is c.stopped.ensures.0 c.stopped.ensures.1 c.stopped.ensures.2 refl

pub returns-in-Ok : goal.returns-in-Ok
returns-in-Ok c = goes_on c.in-Ok.is c.requires.1 c.put_found-width.ensures refl refl refl c.aimed.ensures.0 c.aimed.ensures.1
