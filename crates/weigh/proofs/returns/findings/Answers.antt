-- `weigh::returns::findings` meets its contract. Assumes nothing.
use Rattle.weigh.proofs.ReturnLaws.{return_found}
use Rattle.weigh.proofs.returns.findings.Goals as goal

pub returns : goal.returns
returns c = return_found _ _ _ _ _ c.none.ensures c.and_if.ensures
