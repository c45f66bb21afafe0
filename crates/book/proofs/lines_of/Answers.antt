-- `book::lines_of` meets its contract. Assumes nothing.
use Rattle.book.specs.Threads.{lines_in}
use Rattle.std.proofs.Common.{rules}
use Rattle.book.proofs.lines_of.Goals as goal

pub returns : goal.returns
returns c = unfold lines_in in search rules
