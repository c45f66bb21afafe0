-- `weigh::end::findings` meets its contract. Assumes nothing.
use Rattle.weigh.proofs.EndLaws.{three_found}
use Rattle.weigh.proofs.end.findings.Goals as goal

pub returns : goal.returns
returns c = three_found _ _ _ _ _ _ c.none.ensures c.and_if.ensures c.and_if-2.ensures c.and_if-3.ensures
