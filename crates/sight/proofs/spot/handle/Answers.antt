-- `sight::spot::handle` meets its contract. Assumes nothing.
use Rattle.sight.proofs.SpotLaws.{no_handle_at, other_handle_at}
use Rattle.sight.proofs.spot.handle.Goals as goal

pub returns-then-kind-eq-IDENTITY : goal.returns-then-kind-eq-IDENTITY
returns-then-kind-eq-IDENTITY c = λ led P b cs. no_handle_at _ _ _ _ c.if-kind-eq-IDENTITY.true c.nowhere.ensures

pub returns : goal.returns
returns c = λ led P b cs. other_handle_at _ _ _ _ c.if-kind-eq-IDENTITY.false (c.looked_up.ensures led P b cs)
