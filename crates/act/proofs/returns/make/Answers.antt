-- `act::returns::make` meets its contract. Assumes nothing.
use Rattle.act.proofs.Returning.{handle_stored, no_handle_stored}
use Rattle.act.proofs.returns.make.Goals as goal

pub returns-then-is_handle_result-h-clause-left : goal.returns-then-is_handle_result-h-clause-left
returns-then-is_handle_result-h-clause-left c = handle_stored _ _ _ _ _ _ _ _ _ c.is_handle_result.ensures _ _ _ c.if-is_handle_result-h.true c.class_made.ensures c.row_of-x.ensures c.store.ensures.left

pub returns-else-is_handle_result-h-clause-left : goal.returns-else-is_handle_result-h-clause-left
returns-else-is_handle_result-h-clause-left c = no_handle_stored _ _ _ _ _ _ _ _ _ c.is_handle_result.ensures c.if-is_handle_result-h.false
