-- `answers::Findings::and` meets its contract. Assumes nothing.
use borrow.Author.Tests.{le-leb, lt-leb}
use Rattle.answers.specs.Answer.{with_found}
use Rattle.answers.proofs.Findings.and.Goals as goal

pub returns-then-n-ge-MOST : goal.returns-then-n-ge-MOST
returns-then-n-ge-MOST c = unfold with_found in simp (le-leb _ _ c.if-n-ge-MOST.true)

pub returns : goal.returns
returns c = unfold with_found in simp (lt-leb _ _ c.if-n-ge-MOST.false)
