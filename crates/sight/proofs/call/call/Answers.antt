-- `sight::call::call` meets its contract. Assumes nothing.
use Rattle.sight.proofs.SightLaws.{call_seen}
use Rattle.sight.proofs.call.call.Goals as goal

pub returns : goal.returns
returns c = λ led. call_seen _ _ _ _ _ _ _ _ _ _ _ _ _ _ _ c.env_of-env.ensures c.pending_of-pending.ensures c.monitors_of-monitors.ensures c.top_pushed-pushed.ensures (c.in_critical-critical.ensures led.1) c.places_of-at.ensures (c.place-at_a.ensures led _) (c.place-at_b.ensures led _) (c.place-at_c.ensures led _)
