-- `weigh::places::must_handle_rule` meets its contract. Assumes nothing.
use Rattle.weigh.proofs.PlaceLaws.{null_handle, some_handle}
use Rattle.weigh.proofs.places.must_handle_rule.Goals as goal

pub returns-then-h-eq0 : goal.returns-then-h-eq0
returns-then-h-eq0 c = null_handle _ _ _ c.if-h-eq0.true

pub returns : goal.returns
returns c = some_handle _ _ _ _ c.if-h-eq0.false c.handle_rule.ensures
