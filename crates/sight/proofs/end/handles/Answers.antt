-- `sight::end::handles` meets its contract. Assumes nothing.
use native.Mathlib.Omega.{arith}
use Rattle.tables.proofs.Sights.{globals_counted}
use Rattle.sight.proofs.SightLaws.{globals_le}
use Rattle.sight.proofs.end.handles.Goals as goal

pub overflow_cast-result : goal.overflow_cast-result
overflow_cast-result c = omega (arith, globals_le _ _ (globals_counted _ _ c.globals.ensures))

pub returns : goal.returns
returns c = globals_counted _ _ c.globals.ensures
