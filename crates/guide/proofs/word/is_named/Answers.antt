-- `guide::word::is_named` meets its contract. Assumes nothing.
use Rattle.guide.proofs.Steps.{named_of}
use Rattle.guide.proofs.word.is_named.Goals as goal

pub returns : goal.returns
returns c = named_of _ _ _ _ _ c.name_a.ensures.0 c.name_b.ensures.0 c.name_c.ensures.0
