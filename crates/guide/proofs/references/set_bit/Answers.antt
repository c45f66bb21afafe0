-- `guide::references::set_bit` meets its contract. Assumes nothing.
use borrow.Author.Rules.{rules}
use Rattle.rows.proofs.MarkLaws.{shl_one}
use Rattle.guide.specs.Masks.{with_bit}
use Rattle.guide.proofs.Steps.{bit_past}
use Rattle.guide.proofs.references.set_bit.Goals as goal

pub returns-else-k-guide : goal.returns-else-k-guide
returns-else-k-guide c = bit_past _ _ _ c.if-k-guide.false

pub returns-then-k-guide : goal.returns-then-k-guide
returns-then-k-guide c = unfold with_bit in rw (shl_one c.args.i (search rules))
