-- `weigh::enter::in_turn` meets its contract. Assumes nothing.
use Rattle.weigh.proofs.CallLaws.{open_and}
use Rattle.weigh.proofs.enter.in_turn.Goals as goal

pub returns : goal.returns
returns c = open_and c.args.closed _ _ c.may_enter.ensures
