-- `sight::leave::leave` meets its contract. Assumes nothing.
use Rattle.sight.proofs.SightLaws.{leave_seen}
use Rattle.sight.proofs.leave.leave.Goals as goal

pub returns : goal.returns
returns c = λ led b cs. leave_seen _ _ _ _ _ (c.in_critical-critical.ensures led.1) (c.handle-at.ensures led.0 _ b cs)
