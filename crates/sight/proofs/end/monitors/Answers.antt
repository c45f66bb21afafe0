-- `sight::end::monitors` meets its contract. Assumes nothing.
use native.Mathlib.Omega.{arith}
use Rattle.sight.proofs.SightLaws.{monitors_le}
use Rattle.sight.proofs.end.monitors.Goals as goal

pub overflow_cast-result : goal.overflow_cast-result
overflow_cast-result c = omega (arith, monitors_le _ _ c.all_monitors.ensures)
