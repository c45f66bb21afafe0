-- `sight::identify::identify` meets its contract. Assumes nothing.
use Rattle.sight.proofs.SightLaws.{identify_seen}
use Rattle.sight.proofs.identify.identify.Goals as goal

pub returns : goal.returns
returns c = λ R P b. identify_seen _ _ _ _ _ _ c.is_known-known.ensures c.place_of-place.ensures c.room-room.ensures
