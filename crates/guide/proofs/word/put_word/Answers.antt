-- `guide::word::put_word` meets its contract. Assumes nothing.
use mathlib.Core.Path.{sym}
use lib.Seq.{set_out}
use Rattle.guide.proofs.word.put_word.Goals as goal

pub returns-else-s-guide : goal.returns-else-s-guide
returns-else-s-guide c = sym (set_out _ _ _ c.if-s-guide.false)
