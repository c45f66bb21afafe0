-- The loop of `run::run_on`. Assumes nothing.
use Rattle.run.proofs.Going.{still}
use Rattle.run.proofs.Guided.{Guided}
use Rattle.run.proofs.run_on.Given as goal

abbrev pub invariant-loop-way : goal.invariant-loop-way
invariant-loop-way l = Guided l.ended l.initial.lent l.input l.initial.out l.way l.lent l.out l.touched

abbrev pub decreases-loop-way : goal.decreases-loop-way
decreases-loop-way l = still l.input l.way
