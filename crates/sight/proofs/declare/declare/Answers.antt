-- `sight::declare::declare` meets its contract. Assumes nothing.
use Rattle.sight.proofs.SightLaws.{declare_seen}
use Rattle.sight.proofs.declare.declare.Goals as goal

pub returns : goal.returns
returns c = λ R P b. declare_seen _ _ _ _ _ c.is_known-known.ensures c.is_known-under.ensures
