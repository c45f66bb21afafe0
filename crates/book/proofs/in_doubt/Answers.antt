-- `book::in_doubt` meets its contract. Assumes nothing.
use Rattle.std.proofs.Common.{refl}
use Rattle.book.proofs.Steps.{row_doubted}
use Rattle.book.proofs.in_doubt.Goals as goal

pub returns : goal.returns
returns c = row_doubted _ _ _ _ _ _ refl refl refl c.doubtful.ensures
