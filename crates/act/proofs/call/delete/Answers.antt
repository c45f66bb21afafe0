-- `act::call::delete` meets its contract. Assumes nothing.
use Rattle.act.proofs.Calling.{handle_ended, no_handle_ended}
use Rattle.act.proofs.call.delete.Goals as goal

pub returns-then-is_delete-clause-left : goal.returns-then-is_delete-clause-left
returns-then-is_delete-clause-left c = handle_ended _ _ _ _ _ c.is_delete.ensures _ c.if-is_delete.true c.end.ensures.left

pub returns-else-is_delete-clause-left : goal.returns-else-is_delete-clause-left
returns-else-is_delete-clause-left c = no_handle_ended _ _ _ _ _ c.is_delete.ensures c.if-is_delete.false
