-- `book::push_item` meets its contract. Assumes nothing.
use Rattle.book.proofs.Steps.{item_full, item_room}
use Rattle.book.proofs.push_item.Goals as goal

pub returns-then-d : goal.returns-then-d
returns-then-d c = search item_full

pub returns : goal.returns
returns c =
    item_room _ _ _ _ _ _ _ _ _ _ _ _
    c.items_of-d.ensures.0
    c.if-d.false
    c.number.ensures
    c.marked_function.ensures
    c.with_mark-marks.ensures
    c.store.ensures
    c.store-2.ensures
    c.store-3.ensures
    c.store-4.ensures
