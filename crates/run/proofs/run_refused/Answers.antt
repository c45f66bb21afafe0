-- `run::run_refused` meets its contract. Assumes nothing.
use Rattle.run.proofs.Going.{going_told, started, refused_at_once}
use Rattle.run.proofs.run_refused.Goals as goal

pub returns-then-way : goal.returns-then-way
returns-then-way c = λ T out h n. going_told c.how_far.ensures (started n c.start-way.ensures) c.if-way.true

pub returns : goal.returns
returns c = λ T out h n. let far = c.stopped.ensures in refused_at_once h (started n c.start-way.ensures) c.if-way.false far.0 far.1 far.2 c.how_far-2.ensures
