-- `rows::references::class_at` meets its contract. Assumes nothing.
use native.Mathlib.Omega.{arith}
use Rattle.rows.specs.Table.{room}
use Rattle.rows.proofs.ClassLaws.{class_some, class_none}
use Rattle.rows.proofs.references.class_at.Goals as goal

pub read-requires : goal.read-requires
read-requires c = unfold room in omega arith

pub returns-then-r-room : goal.returns-then-r-room
returns-then-r-room c = search class_some

pub returns-else-r-room : goal.returns-else-r-room
returns-else-r-room c = search class_none
