-- `book::count_line` meets its contract. Assumes nothing.
use Rattle.book.proofs.Steps.{line_added}
use Rattle.book.proofs.count_line.Goals as goal

pub returns : goal.returns
returns c = search line_added
