-- `book::frames_left` meets its contract. Assumes nothing.
use Rattle.std.proofs.Common.{arith, rules}
use Rattle.book.proofs.Steps.{left_first, left_entered, left_pushed, left_none}
use mathlib.Core.Path.{ap}
use mathlib.Core.Bool.{not}
use Rattle.book.proofs.frames_left.Goals as goal

pub loop-i-init : goal.loop-i-init
loop-i-init c = (search rules, search left_first)

pub returns-then-not-frame_pushed : goal.returns-then-not-frame_pushed
returns-then-not-frame_pushed c = (left_entered _ _ _ _ c.loop-i.invariant.1 c.loop-i-test.true c.frame_pushed.ensures (ap not c.if-not-frame_pushed.true), search rules)

pub loop-i-preserved : goal.loop-i-preserved
loop-i-preserved c = (omega arith, search left_pushed)

pub returns : goal.returns
returns c = (search left_none, search rules)
