-- `weigh::returns::allows` meets its contract. Assumes nothing.
use mathlib.Core.Path.{ap}
use Rattle.lines.specs.Numbered.{passes}
use Rattle.weigh.proofs.ReturnLaws.{return_6, return_0, return_7}
use Rattle.weigh.proofs.returns.allows.Goals as goal

pub returns-then-new : goal.returns-then-new
returns-then-new c = ap passes (return_6 _ _ _ c.if-new.true)

pub returns-then-new-f : goal.returns-then-new-f
returns-then-new-f c = ap passes (return_0 _ _ _ c.if-new.false c.if-new-f.true)

pub returns : goal.returns
returns c = ap passes (return_7 _ _ _ c.if-new.false c.if-new-f.false)
