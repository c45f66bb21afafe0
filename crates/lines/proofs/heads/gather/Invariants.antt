-- The loop of `lines::heads::gather`. Assumes nothing.
use mathlib.Core.Path.{◌≡◌}
use Prim.Native.Nat.{◌+◌, ◌-◌}
use lib.ListN.{length}
use Rattle.lines.specs.Gathered.{fields_from, nothing_yet, gathered_as, gathered}
use Rattle.lines.proofs.heads.gather.Given as goal

abbrev pub invariant-loop-at : goal.invariant-loop-at
invariant-loop-at l = gathered l.signed (gathered_as l.t l.values) (fields_from l.s l.at) ≡ gathered l.signed (gathered_as nothing_yet l.initial.values) (fields_from l.s l.from)

abbrev pub decreases-loop-at : goal.decreases-loop-at
decreases-loop-at l = length l.s + 1 - l.at
