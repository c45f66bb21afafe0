-- `sight::end::buffers` meets its contract. Assumes nothing.
use native.Mathlib.Omega.{arith}
use Rattle.sight.proofs.SightLaws.{buffers_le, all_buffers}
use Rattle.sight.proofs.end.buffers.Goals as goal

pub overflow_cast-result : goal.overflow_cast-result
overflow_cast-result c = omega (arith, buffers_le _ _ c.alive.ensures)

pub returns : goal.returns
returns c = all_buffers _ _ c.alive.ensures
