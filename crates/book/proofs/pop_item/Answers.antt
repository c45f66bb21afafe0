-- `book::pop_item` meets its contract. Assumes nothing.
use Rattle.book.proofs.Steps.{item_off}
use Rattle.book.proofs.pop_item.Goals as goal

pub returns : goal.returns
returns c = search item_off
