-- `classes::identities::stated` meets its contract. Assumes nothing.
use native.Mathlib.Omega.{arith}
use Rattle.classes.specs.Identities.{identity_room}
use Rattle.classes.proofs.IdentitySteps.{stated_there, stated_past, stated_free}
use Rattle.classes.proofs.identities.stated.Goals as goal

pub overflow_mul-at : goal.overflow_mul-at
overflow_mul-at c = unfold identity_room in omega arith

pub overflow_add-at : goal.overflow_add-at
overflow_add-at c = unfold identity_room in omega arith

pub offset_bounds-table-at : goal.offset_bounds-table-at
offset_bounds-table-at c = unfold identity_room in omega arith

pub bounds-table-at : goal.bounds-table-at
bounds-table-at c = unfold identity_room in omega arith

pub overflow_add-result : goal.overflow_add-result
overflow_add-result c = unfold identity_room in omega arith

pub offset_bounds-table-at-then-table-at-ne0 : goal.offset_bounds-table-at-then-table-at-ne0
offset_bounds-table-at-then-table-at-ne0 c = unfold identity_room in omega arith

pub bounds-table-at-then-table-at-ne0 : goal.bounds-table-at-then-table-at-ne0
bounds-table-at-then-table-at-ne0 c = unfold identity_room in omega arith

pub overflow_add-result-then-table-at-ne0 : goal.overflow_add-result-then-table-at-ne0
overflow_add-result-then-table-at-ne0 c = unfold identity_room in omega arith

pub offset_bounds-table-at-then-table-at-ne0-2 : goal.offset_bounds-table-at-then-table-at-ne0-2
offset_bounds-table-at-then-table-at-ne0-2 c = unfold identity_room in omega arith

pub bounds-table-at-then-table-at-ne0-2 : goal.bounds-table-at-then-table-at-ne0-2
bounds-table-at-then-table-at-ne0-2 c = unfold identity_room in omega arith

pub overflow_add-result-then-table-at-ne0-2 : goal.overflow_add-result-then-table-at-ne0-2
overflow_add-result-then-table-at-ne0-2 c = unfold identity_room in omega arith

pub offset_bounds-table-at-then-table-at-ne0-3 : goal.offset_bounds-table-at-then-table-at-ne0-3
offset_bounds-table-at-then-table-at-ne0-3 c = unfold identity_room in omega arith

pub bounds-table-at-then-table-at-ne0-3 : goal.bounds-table-at-then-table-at-ne0-3
bounds-table-at-then-table-at-ne0-3 c = unfold identity_room in omega arith

pub returns-then-table-at-ne0 : goal.returns-then-table-at-ne0
returns-then-table-at-ne0 c = stated_there _ _ _ c.place_of-i.ensures _ c.room.ensures c.if-i-room.true c.if-table-at-ne0.true

pub returns-else-table-at-ne0 : goal.returns-else-table-at-ne0
returns-else-table-at-ne0 c = stated_free _ _ _ c.place_of-i.ensures c.if-table-at-ne0.false

pub returns-else-i-room : goal.returns-else-i-room
returns-else-i-room c = stated_past _ _ _ c.place_of-i.ensures _ c.room.ensures c.if-i-room.false
