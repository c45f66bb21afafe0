-- `recorder::tell` meets its contract. Assumes nothing.
use Rattle.recorder.proofs.Told.{bytes_fit, bytes_told}
use Rattle.recorder.proofs.tell.Goals as goal

pub overflow_cast-result : goal.overflow_cast-result
overflow_cast-result c = let a = c.args in bytes_fit a.e a.handles.now a.d.now c.write_line.ensures.0 c.in-Ok.is

pub returns-in-Ok-clause-value : goal.returns-in-Ok-clause-value
returns-in-Ok-clause-value c = let a = c.args in bytes_told a.e a.handles.now a.d.now c.write_line.ensures.0 c.in-Ok.is
