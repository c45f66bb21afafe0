-- `sight::spot::identity` meets its contract. Assumes nothing.
use Rattle.sight.proofs.SpotLaws.{identity_at}
use Rattle.sight.proofs.spot.identity.Goals as goal

pub returns : goal.returns
returns c = λ R P b. identity_at _ _ _ _ _ _ _ c.stated-stated.ensures c.wanted_of-wanted.ensures c.suits-there.ensures c.writes_field-writes.ensures
