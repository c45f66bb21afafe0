-- `book::top_item` meets its contract. Assumes nothing.
use Rattle.book.proofs.Steps.{item_none, item_some}
use Rattle.book.proofs.top_item.Goals as goal

pub returns-in_err-top : goal.returns-in_err-top
returns-in_err-top c = rw c.from_residual.ensures (item_none _ _ _ c.items_of.ensures.0 c.in_err-top.ensures)

pub returns : goal.returns
returns c =
    item_some _ _ _ _ _ _ _ _ _ c.items_of.ensures.0 c.in_ok-top.ensures
    c.number.ensures c.is_marked.ensures c.number-2.ensures c.number-3.ensures c.item_is.ensures
