-- `book::is_overdone` meets its contract. Assumes nothing.
use Rattle.book.proofs.Steps.{by_numbers}
use Rattle.book.proofs.is_overdone.Goals as goal

pub returns : goal.returns
returns c = search by_numbers
