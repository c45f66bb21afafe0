-- `guide::word::is_full` meets its contract. Assumes nothing.
use mathlib.Core.Path.{refl}
use Rattle.guide.specs.Words.{is_full}
use Rattle.guide.proofs.word.is_full.Goals as goal

pub returns : goal.returns
returns c = unfold is_full in refl
