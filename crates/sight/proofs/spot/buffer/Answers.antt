-- `sight::spot::buffer` meets its contract. Assumes nothing.
use Rattle.sight.proofs.SpotLaws.{own_at, ordinary_at}
use Rattle.sight.proofs.spot.buffer.Goals as goal

pub returns-then-is_critical : goal.returns-then-is_critical
returns-then-is_critical c = λ led R d cs. own_at _ _ _ _ _ _ _ c.family-k.ensures _ c.is_critical.ensures c.room-room.ensures c.if-is_critical.true (c.pin_row_of-own.ensures led)

pub returns : goal.returns
returns c = λ led R d cs. ordinary_at _ _ _ _ _ _ _ c.family-k.ensures _ c.is_critical.ensures c.room-room.ensures c.if-is_critical.false (c.pin_row_of-row.ensures led)
