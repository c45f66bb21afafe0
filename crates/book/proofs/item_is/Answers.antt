-- `book::item_is` meets its contract. Assumes nothing.
use Rattle.book.proofs.Steps.{item_attached, item_native, item_call}
use Rattle.book.proofs.item_is.Goals as goal

pub returns-then-f : goal.returns-then-f
returns-then-f c = item_attached _ _ _ c.if-marked.true c.if-f.true

pub returns-then-marked : goal.returns-then-marked
returns-then-marked c = item_native _ _ _ c.if-marked.true c.if-f.false

pub returns : goal.returns
returns c = search item_call
