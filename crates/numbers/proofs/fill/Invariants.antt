-- The loop of `numbers::fill`. Assumes nothing.
use Rattle.numbers.proofs.Put.{Filling}
use Rattle.numbers.proofs.fill.Given as goal

abbrev pub invariant-loop-i : goal.invariant-loop-i
invariant-loop-i l = Filling l.initial.d l.at l.n l.d l.i l.rest
