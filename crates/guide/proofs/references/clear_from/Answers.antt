-- `guide::references::clear_from` meets its contract. Assumes nothing.
use Rattle.guide.proofs.ReferenceSteps.{both_none}
use Rattle.guide.proofs.references.clear_from.Goals as goal

pub returns : goal.returns
returns c = both_none _ _ _ _ _ c.clear_bits.ensures c.clear_bits-2.ensures
