-- `sight::state::state` meets its contract. Assumes nothing.
use Rattle.sight.proofs.SightLaws.{state_seen}
use Rattle.sight.proofs.state.state.Goals as goal

pub returns : goal.returns
returns c = λ led P b. state_seen _ _ _ _ _ _ c.is_known-known.ensures (c.handle-at.ensures led P b _)
