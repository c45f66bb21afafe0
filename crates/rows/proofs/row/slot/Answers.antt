-- `rows::row::slot` meets its contract. Assumes nothing.
use native.Mathlib.Omega.{arith}
use Rattle.rows.specs.Table.{room}
use Rattle.rows.proofs.TableLaws.{slot_past, slot_used, slot_free}
use Rattle.rows.proofs.row.slot.Goals as goal

pub returns-then-room-r : goal.returns-then-room-r
returns-then-room-r g c = search slot_past

pub is_used-requires : goal.is_used-requires
is_used-requires g c = unfold room in omega arith

pub read-requires : goal.read-requires
read-requires g c = unfold room in omega arith

pub returns-then-is_used : goal.returns-then-is_used
returns-then-is_used g c = search slot_used

pub returns-else-is_used : goal.returns-else-is_used
returns-else-is_used g c = search slot_free
