-- `weigh::attach::in_turn` meets its contract. Assumes nothing.
use Rattle.weigh.proofs.CallLaws.{open_and}
use Rattle.weigh.proofs.StepLaws.{none_empty}
use Rattle.weigh.proofs.attach.in_turn.Goals as goal

pub returns : goal.returns
returns c = open_and c.args.closed _ _ (none_empty _ _ c.is_none.ensures)
