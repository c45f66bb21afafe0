-- `trace::with_passed` meets its contract. Assumes nothing.
use mathlib.Core.Path.{refl}
use Rattle.trace.proofs.with_passed.Goals as goal

pub returns : goal.returns
returns c = record { at = refl; findings = refl; bytes = refl; shown = c.put_front.ensures }
