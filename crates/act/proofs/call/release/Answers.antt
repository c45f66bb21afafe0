-- `act::call::release` meets its contract. Assumes nothing.
use Rattle.act.proofs.Calling.{buffer_ended, no_buffer_ended}
use Rattle.act.proofs.call.release.Goals as goal

pub returns-then-is_buffer_place-clause-left : goal.returns-then-is_buffer_place-clause-left
returns-then-is_buffer_place-clause-left c = buffer_ended _ _ _ _ c.is_buffer_place.ensures _ c.if-is_buffer_place.true c.end.ensures.left

pub returns-else-is_buffer_place-clause-left : goal.returns-else-is_buffer_place-clause-left
returns-else-is_buffer_place-clause-left c = no_buffer_ended _ _ _ _ c.is_buffer_place.ensures c.if-is_buffer_place.false
