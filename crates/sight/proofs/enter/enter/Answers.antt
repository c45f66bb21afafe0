-- `sight::enter::enter` meets its contract. Assumes nothing.
use Rattle.sight.proofs.SightLaws.{enter_seen}
use Rattle.sight.proofs.enter.enter.Goals as goal

pub returns : goal.returns
returns c = λ led P cs. enter_seen _ _ _ _ _ _ _ _ _ _ _ c.env_of-own.ensures c.env_elsewhere-elsewhere.ensures (c.some_alive-alive.ensures led) c.room-room.ensures (c.used_rows-used.ensures led) c.saturating_sub.ensures c.frames_of-frames.ensures.0
