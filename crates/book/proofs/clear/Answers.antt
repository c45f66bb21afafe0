-- `book::clear` meets its contract. Assumes nothing.
use Rattle.std.proofs.Common.{rules}
use Rattle.book.specs.Moves.{cleared}
use Rattle.book.proofs.clear.Goals as goal

pub returns : goal.returns
returns c = unfold cleared in search rules
