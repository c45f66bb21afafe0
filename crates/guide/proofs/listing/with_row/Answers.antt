-- `guide::listing::with_row` meets its contract. Assumes nothing.
use mathlib.Core.Path.{ap}
use mathlib.Core.Bool.{not}
use Rattle.guide.proofs.RowSteps.{row_for_a, row_for_b, row_for_c, row_for_none}
use Rattle.guide.proofs.listing.with_row.Goals as goal

pub returns-then-not-wants : goal.returns-then-not-wants
returns-then-not-wants g c = row_for_a g.R.Listed.layout _ g.R.Listed.first g.R.Listed.second _ _ _ _ _ _ c.name_a-a.ensures.0 c.name_b-b.ensures.0 c.name_c-c.ensures.0 _ c.wants.ensures _ _ (ap not c.if-not-wants.true) c.above.ensures.0 c.word_of.ensures

pub returns-then-not-wants-2 : goal.returns-then-not-wants-2
returns-then-not-wants-2 g c = row_for_b g.R.Listed.layout _ g.R.Listed.first g.R.Listed.second _ _ _ _ _ _ c.name_a-a.ensures.0 c.name_b-b.ensures.0 c.name_c-c.ensures.0 _ c.wants.ensures (ap not c.if-not-wants.false) _ c.wants-2.ensures _ _ (ap not c.if-not-wants-2.true) c.above-then-not-wants-2.ensures.0 c.word_of-then-not-wants-2.ensures

pub returns-then-not-wants-3 : goal.returns-then-not-wants-3
returns-then-not-wants-3 g c = row_for_c g.R.Listed.layout _ g.R.Listed.first g.R.Listed.second _ _ _ _ _ _ c.name_a-a.ensures.0 c.name_b-b.ensures.0 c.name_c-c.ensures.0 _ c.wants.ensures (ap not c.if-not-wants.false) _ c.wants-2.ensures (ap not c.if-not-wants-2.false) _ c.wants-3.ensures _ _ (ap not c.if-not-wants-3.true) c.above-then-not-wants-3.ensures.0 c.word_of-then-not-wants-3.ensures

pub returns : goal.returns
returns g c = row_for_none g.R.Listed.layout _ g.R.Listed.first g.R.Listed.second _ _ _ _ _ _ c.name_a-a.ensures.0 c.name_b-b.ensures.0 c.name_c-c.ensures.0 _ c.wants.ensures (ap not c.if-not-wants.false) _ c.wants-2.ensures (ap not c.if-not-wants-2.false) _ c.wants-3.ensures _ (ap not c.if-not-wants-3.false) c.word_of-2.ensures
