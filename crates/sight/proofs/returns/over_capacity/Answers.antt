-- `sight::returns::over_capacity` meets its contract. Assumes nothing.
use Rattle.sight.proofs.ReturnLaws.{capacity_left}
use Rattle.sight.proofs.returns.over_capacity.Goals as goal

pub returns : goal.returns
returns c = λ led. capacity_left _ _ _ _ _ _ c.frames_of-d.ensures.0 (c.alive_in-held.ensures led) c.top_capacity.ensures
