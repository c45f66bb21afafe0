-- `classes::identities::put` meets its contract. Assumes nothing.
use native.Mathlib.Omega.{arith}
use lib.ListN.{length-set}
use Rattle.classes.specs.Identities.{identity_room}
use Rattle.classes.proofs.IdentitySteps.{put_there, put_nowhere}
use Rattle.classes.proofs.identities.put.Goals as goal

pub overflow_mul-at : goal.overflow_mul-at
overflow_mul-at c = unfold identity_room in omega arith

pub overflow_add-at : goal.overflow_add-at
overflow_add-at c = unfold identity_room in omega arith

pub offset_bounds-table-at : goal.offset_bounds-table-at
offset_bounds-table-at c = unfold identity_room in omega arith

pub bounds-table-at : goal.bounds-table-at
bounds-table-at c = unfold identity_room in omega arith

pub overflow_add-table : goal.overflow_add-table
overflow_add-table c = unfold identity_room in omega arith

pub offset_bounds-table-at-then-i-room : goal.offset_bounds-table-at-then-i-room
offset_bounds-table-at-then-i-room c = unfold identity_room in omega arith

pub bounds-table-at-then-i-room : goal.bounds-table-at-then-i-room
bounds-table-at-then-i-room c = simp length-set (unfold identity_room in omega arith)

pub overflow_add-table-then-i-room : goal.overflow_add-table-then-i-room
overflow_add-table-then-i-room c = unfold identity_room in omega arith

pub offset_bounds-table-at-then-i-room-2 : goal.offset_bounds-table-at-then-i-room-2
offset_bounds-table-at-then-i-room-2 c = unfold identity_room in omega arith

pub bounds-table-at-then-i-room-2 : goal.bounds-table-at-then-i-room-2
bounds-table-at-then-i-room-2 c = simp length-set (unfold identity_room in omega arith)

pub overflow_add-table-then-i-room-2 : goal.overflow_add-table-then-i-room-2
overflow_add-table-then-i-room-2 c = unfold identity_room in omega arith

pub offset_bounds-table-at-then-i-room-3 : goal.offset_bounds-table-at-then-i-room-3
offset_bounds-table-at-then-i-room-3 c = unfold identity_room in omega arith

pub bounds-table-at-then-i-room-3 : goal.bounds-table-at-then-i-room-3
bounds-table-at-then-i-room-3 c = simp length-set (unfold identity_room in omega arith)

pub returns-then-i-room : goal.returns-then-i-room
returns-then-i-room c = put_there _ _ _ _ _ _ _ c.room.ensures c.if-i-room.true

pub returns-else-i-room : goal.returns-else-i-room
returns-else-i-room c = put_nowhere _ _ _ _ _ _ _ c.room.ensures c.if-i-room.false
