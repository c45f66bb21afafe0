-- `weigh::call::findings` meets its contract. Assumes nothing.
use Rattle.weigh.proofs.CallLaws.{judged_found}
use Rattle.weigh.proofs.call.findings.Goals as goal

pub returns : goal.returns
returns c = judged_found _ _ _ c.judge.ensures c.findings.ensures
