-- `sight::seen::alive_in` meets its contract. Assumes nothing.
use Rattle.tables.proofs.Sights.{frame_counted, no_frame_counted}
use Rattle.sight.proofs.LeadLaws.{frame_held}
use Rattle.sight.proofs.seen.alive_in.Goals as goal

pub returns-then-t-eq0 : goal.returns-then-t-eq0
returns-then-t-eq0 c = λ led. no_frame_counted _ _ _ c.if-t-eq0.true

pub returns-then-is_empty-t : goal.returns-then-is_empty-t
returns-then-is_empty-t c = λ led. frame_counted _ _ _ _ c.if-t-eq0.false c.count.ensures

pub returns : goal.returns
returns c = λ led. frame_counted _ _ _ _ c.if-t-eq0.false (frame_held _ _ _ _ _ _ c.is_empty.ensures led c.if-is_empty-t.false c.held.ensures)
