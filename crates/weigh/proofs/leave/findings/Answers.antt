-- `weigh::leave::findings` meets its contract. Assumes nothing.
use Rattle.weigh.proofs.LeaveLaws.{leave_found}
use Rattle.weigh.proofs.leave.findings.Goals as goal

pub returns : goal.returns
returns c = leave_found _ _ _ _ _ c.handle_or_null_rule-rule1.ensures c.findings.ensures
