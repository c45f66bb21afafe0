-- `weigh::places::handle_or_null_rule` meets its contract. Assumes nothing.
use Rattle.weigh.proofs.PlaceLaws.{null_or_handle, handle_or_null}
use Rattle.weigh.proofs.places.handle_or_null_rule.Goals as goal

pub returns-then-h-eq0 : goal.returns-then-h-eq0
returns-then-h-eq0 c = null_or_handle _ _ _ c.if-h-eq0.true

pub returns : goal.returns
returns c = handle_or_null _ _ _ _ c.if-h-eq0.false c.handle_rule.ensures
