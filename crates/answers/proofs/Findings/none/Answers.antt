-- `answers::Findings::none` meets its contract. Assumes nothing.
use mathlib.Core.Path.{refl}
use Rattle.answers.specs.Answer.{findings_of}
use Rattle.answers.proofs.Findings.none.Goals as goal

pub returns : goal.returns
returns c = unfold findings_of in refl
