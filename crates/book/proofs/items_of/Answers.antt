-- `book::items_of` meets its contract. Assumes nothing.
use Rattle.book.proofs.Steps.{items_are}
use Rattle.std.proofs.Common.{rules}
use Rattle.book.proofs.items_of.Goals as goal

pub returns : goal.returns
returns c = (search items_are, search rules)
