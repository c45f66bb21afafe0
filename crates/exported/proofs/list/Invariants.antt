-- The loop of `exported::list`. Assumes nothing.
use mathlib.Core.Path.{◌≡◌}
use lib.ListN.{length, take}
use Rattle.exported.specs.Told.{in_front}
use Rattle.exported.proofs.list.Given as goal

abbrev pub invariant-loop-at : goal.invariant-loop-at
invariant-loop-at l = (l.found ≡ in_front (take l.at l.answer.found) l.initial.found) × (length l.found ≡ length l.initial.found)
