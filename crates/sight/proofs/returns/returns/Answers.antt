-- `sight::returns::returns` meets its contract. Assumes nothing.
use Rattle.sight.proofs.ReturnLaws.{return_seen}
use Rattle.sight.proofs.returns.returns.Goals as goal

pub returns : goal.returns
returns c = λ led cs. return_seen _ _ _ _ _ _ _ _ c.result_of-kind.ensures (c.what_is_made-new.ensures led) c.frames_of-frames.ensures.0 (c.overflows-over.ensures led)
