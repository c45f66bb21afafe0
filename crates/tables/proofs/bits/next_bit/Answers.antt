-- `tables::bits::next_bit` meets its contract. Assumes nothing.
use borrow.Author.Rules.{rules}
use Rattle.tables.proofs.Shown.{none_between}
use Rattle.tables.proofs.bits.next_bit.Goals as goal

pub returns : goal.returns
returns c = none_between _ _ _ c.min.ensures (search rules)
