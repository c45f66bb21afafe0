-- `rows::row::store` meets its contract. Assumes nothing.
use native.Mathlib.Omega.{arith}
use Rattle.rows.specs.Table.{room}
use Rattle.rows.proofs.TableLaws.{store_none, store_some}
use Rattle.rows.proofs.row.store.Goals as goal

pub write-requires : goal.write-requires
write-requires g c = unfold room in omega arith

pub set_mark-requires : goal.set_mark-requires
set_mark-requires g c = unfold room in omega arith

pub returns-then-r-room : goal.returns-then-r-room
returns-then-r-room g c = search store_some

pub returns-else-r-room : goal.returns-else-r-room
returns-else-r-room g c = search store_none
