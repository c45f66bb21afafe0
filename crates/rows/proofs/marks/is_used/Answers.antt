-- `rows::marks::is_used` meets its contract. Assumes nothing.
use borrow.Author.Rules.{rules}
use Rattle.rows.specs.Marks.{bit, used}
use Rattle.rows.proofs.marks.is_used.Goals as goal

pub returns : goal.returns
returns c = unfold used bit in search rules
