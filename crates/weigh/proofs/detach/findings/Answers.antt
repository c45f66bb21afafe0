-- `weigh::detach::findings` meets its contract. Assumes nothing.
use Rattle.weigh.proofs.DetachLaws.{two_found}
use Rattle.weigh.proofs.detach.findings.Goals as goal

pub returns : goal.returns
returns c = two_found _ _ _ _ _ c.none.ensures c.and_if.ensures c.and_if-2.ensures
