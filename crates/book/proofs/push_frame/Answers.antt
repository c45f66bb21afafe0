-- `book::push_frame` meets its contract. Assumes nothing.
use Rattle.book.proofs.Steps.{push_full, push_room}
use Rattle.book.proofs.push_frame.Goals as goal

pub returns-then-d : goal.returns-then-d
returns-then-d c = search push_full

pub returns : goal.returns
returns c =
    push_room _ _ _ _ _ _ _ _ _
    c.frames_of-d.ensures.0
    c.if-d.false
    c.from-mark.ensures
    c.store.ensures
    c.store-2.ensures
    c.store-3.ensures
