-- `sight::spot::judged` meets its contract. Assumes nothing.
use Rattle.sight.proofs.SpotLaws.{unjudged_at, judged_at}
use Rattle.sight.proofs.spot.judged.Goals as goal

pub returns-then-fixed-at : goal.returns-then-fixed-at
returns-then-fixed-at c = λ led P b. unjudged_at _ _ _ _ _ (c.handle-at.ensures led P b _) c.if-fixed-at.true

pub returns : goal.returns
returns c = λ led P b. judged_at _ _ _ _ _ (c.handle-at.ensures led P b _) _ _ c.if-fixed-at.false c.class_at-stated.ensures c.fits-fits.ensures
