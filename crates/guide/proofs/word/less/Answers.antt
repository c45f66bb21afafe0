-- `guide::word::less` meets its contract. Assumes nothing.
use Rattle.std.proofs.Common.{rules}
use Rattle.guide.specs.Tallies.{less_at}
use Rattle.guide.proofs.word.less.Goals as goal

pub returns : goal.returns
returns c = unfold less_at in search rules
