-- `events::told::declare` meets its contract. Assumes nothing.
use Rattle.events.proofs.told.declare.Goals as goal

pub returns : goal.returns
returns c = c.declare.ensures _ _ _
