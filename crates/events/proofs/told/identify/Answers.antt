-- `events::told::identify` meets its contract. Assumes nothing.
use Rattle.events.proofs.told.identify.Goals as goal

pub returns : goal.returns
returns c = c.identify.ensures _ _ _
