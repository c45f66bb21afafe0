-- `act::returns::get` meets its contract. Assumes nothing.
use Rattle.act.proofs.Returning.{buffer_stored, no_buffer_stored}
use Rattle.act.proofs.returns.get.Goals as goal

pub returns-then-is_buffer_result-h-clause-left : goal.returns-then-is_buffer_result-h-clause-left
returns-then-is_buffer_result-h-clause-left c = buffer_stored _ _ _ _ _ _ _ _ c.is_buffer_result.ensures _ _ _ c.if-is_buffer_result-h.true c.family-k.ensures c.pin_owner.ensures c.store.ensures.left

pub returns-else-is_buffer_result-h-clause-left : goal.returns-else-is_buffer_result-h-clause-left
returns-else-is_buffer_result-h-clause-left c = no_buffer_stored _ _ _ _ _ _ _ _ c.is_buffer_result.ensures c.if-is_buffer_result-h.false
