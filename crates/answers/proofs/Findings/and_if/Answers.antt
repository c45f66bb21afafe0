-- `answers::Findings::and_if` meets its contract. Assumes nothing.
use mathlib.Core.Path.{◌∙◌}
use Rattle.answers.specs.Answer.{found_if}
use Rattle.answers.proofs.Findings.and_if.Goals as goal

pub returns-then-is : goal.returns-then-is
returns-then-is c = unfold found_if in c.and.ensures ∙ simp c.if-is.true

pub returns-else-is : goal.returns-else-is
returns-else-is c = unfold found_if in simp c.if-is.false
