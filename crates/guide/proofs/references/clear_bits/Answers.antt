-- `guide::references::clear_bits` meets its contract. Assumes nothing.
use Rattle.std.proofs.Common.{rules}
use Rattle.guide.proofs.ReferenceSteps.{none_filled}
use Rattle.guide.proofs.references.clear_bits.Goals as goal

pub returns : goal.returns
returns c = none_filled _ _ _ _ _ _ _ c.cell_of.ensures.0 c.min-k.ensures c.frames_in-n.ensures _ (c.fill.ensures.after (λ y e. search rules))
