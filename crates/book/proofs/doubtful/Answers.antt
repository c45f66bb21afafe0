-- `book::doubtful` meets its contract. Assumes nothing.
use Rattle.std.proofs.Common.{refl}
use Rattle.book.proofs.Steps.{no_doubt}
use Rattle.book.proofs.doubtful.Goals as goal

pub returns : goal.returns
returns c = no_doubt _ _ _ _ _ _ c.max.ensures refl refl
