-- `weigh::places::kind_rule` meets its contract. Assumes nothing.
use Rattle.weigh.proofs.PlaceLaws.{null_kind, right_kind, other_kind}
use Rattle.weigh.proofs.places.kind_rule.Goals as goal

pub returns-then-h-eq0 : goal.returns-then-h-eq0
returns-then-h-eq0 c = null_kind _ _ _ _ c.if-h-eq0.true

pub returns-then-h-kind : goal.returns-then-h-kind
returns-then-h-kind c = right_kind _ _ _ _ _ c.if-h-eq0.false c.if-h-kind.true c.handle_rule.ensures

pub returns-else-h-kind : goal.returns-else-h-kind
returns-else-h-kind c = other_kind _ _ _ _ c.if-h-eq0.false c.if-h-kind.false
