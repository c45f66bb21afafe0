-- `weigh::call::allows` meets its contract. Assumes nothing.
use mathlib.Core.Path.{ap}
use Rattle.lines.specs.Numbered.{passes}
use Rattle.weigh.proofs.CallLaws.{call_4, call_7, call_0}
use Rattle.weigh.proofs.call.allows.Goals as goal

pub returns-then-closed-may_call : goal.returns-then-closed-may_call
returns-then-closed-may_call c = ap passes (call_4 _ _ _ _ c.may_call.ensures c.if-closed-may_call.true)

pub returns-then-many-ge-DEEPEST : goal.returns-then-many-ge-DEEPEST
returns-then-many-ge-DEEPEST c = ap passes (call_7 _ _ _ _ c.may_call.ensures c.if-closed-may_call.false c.if-many-ge-DEEPEST.true)

pub returns : goal.returns
returns c = ap passes (call_0 _ _ _ _ c.may_call.ensures c.if-closed-may_call.false c.if-many-ge-DEEPEST.false)
