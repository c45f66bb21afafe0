-- `book::is_marked` meets its contract. Assumes nothing.
use Rattle.std.proofs.Common.{rules}
use Rattle.rows.specs.Marks.{bit}
use Rattle.book.proofs.is_marked.Goals as goal

pub returns : goal.returns
returns c = unfold bit in search rules
