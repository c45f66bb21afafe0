-- `guide::references::raise` meets its contract. Assumes nothing.
use Rattle.guide.proofs.Steps.{raised_to}
use Rattle.guide.proofs.references.raise.Goals as goal

pub returns : goal.returns
returns c = raised_to _ _ _ _ c.put_word.ensures
