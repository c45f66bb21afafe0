-- `guide::references::lower` meets its contract. Assumes nothing.
use Rattle.std.proofs.Common.{rules}
use Rattle.guide.specs.Frees.{lowered_at}
use Rattle.guide.proofs.references.lower.Goals as goal

pub returns : goal.returns
returns c = unfold lowered_at in search rules
