-- `guide::word::word_of` meets its contract. Assumes nothing.
use mathlib.Core.Path.{refl}
use Rattle.guide.specs.Words.{word_of}
use Rattle.guide.proofs.word.word_of.Goals as goal

pub returns : goal.returns
returns c = unfold word_of in refl
