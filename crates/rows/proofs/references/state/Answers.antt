-- `rows::references::state` meets its contract. Assumes nothing.
use native.Mathlib.Omega.{arith}
use Rattle.rows.specs.Table.{room}
use Rattle.rows.proofs.TableLaws.{change_none, change_some}
use Rattle.rows.proofs.references.state.Goals as goal

pub write_class-requires : goal.write_class-requires
write_class-requires c = unfold room in omega arith

pub returns-then-r-room : goal.returns-then-r-room
returns-then-r-room c = search change_some

pub returns-else-r-room : goal.returns-else-r-room
returns-else-r-room c = search change_none
