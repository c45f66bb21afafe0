-- `sight::spot::looked_up` meets its contract. Assumes nothing.
use Rattle.sight.proofs.SpotLaws.{local_looked_up, shared_looked_up}
use Rattle.sight.proofs.spot.looked_up.Goals.{then-local, else-local}
use Rattle.sight.proofs.spot.looked_up.Goals as goal

pub returns : goal.returns
returns c = λ led P b cs. elim c.if-local.branch [
  | then-local w ↦ local_looked_up _ _ _ _ _ c.room-room.ensures _ _ (c.row_of-row.ensures led) w.if-local.true w.owner-is
  | else-local w ↦ shared_looked_up _ _ _ _ _ c.room-room.ensures _ _ (c.row_of-row.ensures led) w.if-local.false w.owner-is
]
