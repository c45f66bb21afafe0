-- `weigh::declare::allows` meets its contract. Assumes nothing.
use mathlib.Core.Path.{ap}
use Rattle.lines.specs.Numbered.{passes}
use Rattle.weigh.proofs.StatementLaws.{declare_4, declare_9, declare_0}
use Rattle.weigh.proofs.declare.allows.Goals as goal

pub returns-then-closed : goal.returns-then-closed
returns-then-closed c = ap passes (declare_4 _ _ c.if-closed.true)

pub returns-then-seen : goal.returns-then-seen
returns-then-seen c = ap passes (declare_9 _ _ c.if-closed.false c.if-seen.true)

pub returns : goal.returns
returns c = ap passes (declare_0 _ _ c.if-closed.false c.if-seen.false)
