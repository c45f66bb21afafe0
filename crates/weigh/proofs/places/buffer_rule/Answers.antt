-- `weigh::places::buffer_rule` meets its contract. Assumes nothing.
use Rattle.weigh.proofs.PlaceLaws.{null_buffer, buffer_out, buffer_not_out}
use Rattle.weigh.proofs.places.buffer_rule.Goals as goal

pub returns-then-b-eq0 : goal.returns-then-b-eq0
returns-then-b-eq0 c = λ fits. null_buffer _ _ fits c.if-b-eq0.true

pub returns-then-there : goal.returns-then-there
returns-then-there c = λ fits. buffer_out _ _ fits c.if-b-eq0.false c.if-there.true

pub returns-else-there : goal.returns-else-there
returns-else-there c = λ fits. buffer_not_out _ _ fits c.if-b-eq0.false c.if-there.false
