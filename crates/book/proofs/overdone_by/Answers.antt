-- `book::overdone_by` meets its contract. Assumes nothing.
use Rattle.book.proofs.Steps.{counted, not_counted}
use Rattle.book.proofs.overdone_by.Goals as goal

pub returns-then-doubtful-marks : goal.returns-then-doubtful-marks
returns-then-doubtful-marks c = search counted

pub returns : goal.returns
returns c = search not_counted
