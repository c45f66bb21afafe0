-- `book::frames_of` meets its contract. Assumes nothing.
use Rattle.book.proofs.Steps.{frames_are}
use Rattle.std.proofs.Common.{rules}
use Rattle.book.proofs.frames_of.Goals as goal

pub returns : goal.returns
returns c = (search frames_are, search rules)
