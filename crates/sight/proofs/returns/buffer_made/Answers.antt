-- `sight::returns::buffer_made` meets its contract. Assumes nothing.
use Rattle.sight.proofs.ReturnLaws.{buffer_seen}
use Rattle.sight.proofs.returns.buffer_made.Goals as goal

pub returns : goal.returns
returns c = buffer_seen _ _ _ c.lowest_free-row.ensures c.room-room.ensures
