-- `rows::references::take` meets its contract. Assumes nothing.
use Rattle.rows.proofs.TableLaws.{take_left}
use Rattle.rows.proofs.references.take.Goals as goal

pub returns-clause-left : goal.returns-clause-left
returns-clause-left c = search take_left
