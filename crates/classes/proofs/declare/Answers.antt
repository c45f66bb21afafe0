-- `classes::declare` meets its contract. Assumes nothing.
use Rattle.classes.proofs.Steps.{from_first, index_there, super_set, super_not_set}
use Rattle.classes.proofs.declare.Goals as goal

pub overflow_sub-table : goal.overflow_sub-table
overflow_sub-table c = from_first _ _ c.if-c-table.true

pub bounds-table-c : goal.bounds-table-c
bounds-table-c c = index_there _ _ c.if-c-table.true

pub returns-then-c-table : goal.returns-then-c-table
returns-then-c-table c = super_set _ _ _ c.if-c-table.true

pub returns-else-c-table : goal.returns-else-c-table
returns-else-c-table c = super_not_set _ _ _ c.if-c-table.false
