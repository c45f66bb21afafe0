-- `rows::references::write_class` meets its contract. Assumes nothing.
use Rattle.rows.proofs.ClassLaws.{class_put}
use Rattle.rows.proofs.references.write_class.Goals as goal

pub returns : goal.returns
returns c = search class_put
