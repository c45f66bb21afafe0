-- `guide::references::bits_from` meets its contract. Assumes nothing.
use Rattle.guide.proofs.ReferenceSteps.{bits_are}
use Rattle.guide.proofs.references.bits_from.Goals as goal

pub returns : goal.returns
returns c = bits_are _ _ _ _ _ _ _ c.cell_of.ensures.0 c.min-k.ensures c.frames_in-n.ensures _ _ c.together.ensures c.number_at.ensures
