-- `weigh::call::judge` meets its contract. Assumes nothing.
use Rattle.weigh.proofs.CallLaws.{call_judged}
use Rattle.weigh.proofs.call.judge.Goals as goal

pub returns : goal.returns
returns c = call_judged _ _ _ _ _ _ _ _ _ _ _ _ c.against_pending-pending.ensures c.against_critical-critical.ensures c.place_rule-rule1.ensures c.place_rule-rule2.ensures c.place_rule-rule3.ensures
