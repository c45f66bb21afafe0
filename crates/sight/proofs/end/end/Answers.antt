-- `sight::end::end` meets its contract. Assumes nothing.
use Rattle.sight.proofs.SightLaws.{end_seen}
use Rattle.sight.proofs.end.end.Goals as goal

pub returns : goal.returns
returns c = λ cs. end_seen _ _ _ _ c.buffers-out.ensures c.monitors-held.ensures c.handles-alive.ensures
