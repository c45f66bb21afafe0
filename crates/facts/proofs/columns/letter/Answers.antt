-- `facts::columns::letter` meets its contract. Assumes nothing.
use borrow.Author.Tests.{lt-ltb, le-ltb}
use Rattle.facts.specs.Letters.{letter_at}
use Rattle.facts.proofs.columns.letter.Goals as goal

pub returns-then-at-ge-NUMBERS : goal.returns-then-at-ge-NUMBERS
unfolding letter_at
returns-then-at-ge-NUMBERS c = rw (le-ltb _ _ c.if-at-ge-NUMBERS.true)

pub returns : goal.returns
unfolding letter_at
returns c = rw (lt-ltb _ _ c.if-at-ge-NUMBERS.false) (rw c.line-letters.ensures)
