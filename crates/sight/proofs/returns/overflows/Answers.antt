-- `sight::returns::overflows` meets its contract. Assumes nothing.
use Rattle.sight.proofs.ReturnLaws.{over_there, over_none}
use Rattle.sight.proofs.returns.overflows.Goals as goal

pub returns-then-is_local_result-h : goal.returns-then-is_local_result-h
returns-then-is_local_result-h c = λ led. over_there _ _ _ _ _ _ c.is_local_result.ensures _ c.if-is_local_result-h.true (c.over_capacity.ensures led)

pub returns : goal.returns
returns c = λ led. over_none _ _ _ _ _ _ c.is_local_result.ensures c.if-is_local_result-h.false
