-- `book::overdone` meets its contract. Assumes nothing.
use Rattle.std.proofs.Common.{refl}
use Rattle.book.proofs.overdone.Goals as goal

pub returns : goal.returns
returns c = refl
