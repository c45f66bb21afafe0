-- `book::pop_frame` meets its contract. Assumes nothing.
use Rattle.book.proofs.Steps.{pop_top}
use Rattle.book.proofs.pop_frame.Goals as goal

pub returns : goal.returns
returns c =
    pop_top _ _ _ _ _ _ _
    c.frames_of-d.ensures.0
    c.top_pushed.ensures
    c.from-gone.ensures
    c.saturating_sub.ensures
    c.store.ensures
