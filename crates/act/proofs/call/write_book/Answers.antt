-- `act::call::write_book` meets its contract. Assumes nothing.
use Rattle.act.proofs.Calling.{book_called}
use Rattle.act.proofs.call.write_book.Goals as goal

pub returns : goal.returns
returns c = book_called _ _ _ _ _ c.pop.ensures c.count_line.ensures
