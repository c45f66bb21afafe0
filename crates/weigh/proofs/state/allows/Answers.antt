-- `weigh::state::allows` meets its contract. Assumes nothing.
use mathlib.Core.Path.{ap}
use Rattle.lines.specs.Numbered.{passes}
use Rattle.weigh.proofs.StatementLaws.{state_4, state_9, state_10, state_0}
use Rattle.weigh.proofs.state.allows.Goals as goal

pub returns-then-closed : goal.returns-then-closed
returns-then-closed c = ap passes (state_4 _ _ c.if-closed.true)

pub returns-then-not-seen : goal.returns-then-not-seen
returns-then-not-seen c = ap passes (state_9 _ _ c.if-closed.false c.if-not-seen.true)

pub returns-then-not-seen-2 : goal.returns-then-not-seen-2
returns-then-not-seen-2 c = ap passes (state_10 _ _ c.if-closed.false c.if-not-seen.false c.if-not-seen-2.true)

pub returns : goal.returns
returns c = ap passes (state_0 _ _ c.if-closed.false c.if-not-seen.false c.if-not-seen-2.false)
