-- `sight::detach::detach` meets its contract. Assumes nothing.
use Rattle.sight.proofs.SightLaws.{detach_seen}
use Rattle.sight.proofs.detach.detach.Goals as goal

pub returns : goal.returns
returns c = λ led R cs. detach_seen _ _ _ _ (c.in_critical-critical.ensures led) c.monitors_of-monitors.ensures
