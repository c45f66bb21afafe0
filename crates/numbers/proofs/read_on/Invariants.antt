-- The loop of `numbers::read_on`. Assumes nothing.
use Rattle.numbers.proofs.Run.{Going}
use Rattle.numbers.proofs.read_on.Given as goal

abbrev pub invariant-loop-i : goal.invariant-loop-i
invariant-loop-i l = Going l.max l.stop l.s l.at l.start l.i l.n
