-- `act::returns::take_status` meets its contract. Assumes nothing.
use Rattle.act.proofs.Returning.{status_acts, status_rests}
use Rattle.act.proofs.returns.take_status.Goals as goal

pub returns-then-status-eq0-clause-left : goal.returns-then-status-eq0-clause-left
returns-then-status-eq0-clause-left c = status_acts _ _ _ _ _ _ c.ranges.status c.if-status-eq0.true c.succeed.ensures.left

pub returns-else-status-eq0-clause-left : goal.returns-else-status-eq0-clause-left
returns-else-status-eq0-clause-left c = status_rests _ _ _ _ _ c.if-status-eq0.false
