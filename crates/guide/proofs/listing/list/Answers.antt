-- `guide::listing::list` meets its contract. Assumes nothing.
use mathlib.Core.Path.{refl, ◌∙◌}
use Rattle.guide.proofs.RowSteps.{listed_at, listed_first, listed_second}
use Rattle.guide.proofs.listing.list.Goals as goal

pub returns-then-is_named : goal.returns-then-is_named
returns-then-is_named g c = listed_first g.R.Listed.layout _ g.R.Listed.first g.R.Listed.second _ _ _ (g.R.Listed.second c.args.x) _ _ _ c.word_at.ensures c.with_row-v.ensures c.put_word.ensures _ c.is_named.ensures c.if-is_named.true ∙ listed_at g.R.Listed.layout _ g.R.Listed.first g.R.Listed.second _ _ _ _ _ _ c.first-a.ensures refl

pub returns : goal.returns
returns g c = listed_second g.R.Listed.layout _ g.R.Listed.first g.R.Listed.second _ _ _ _ _ _ _ c.word_at.ensures c.with_row-v.ensures c.put_word.ensures _ c.is_named.ensures c.if-is_named.false _ _ _ c.word_at-2.ensures c.with_row-w.ensures c.put_word-2.ensures ∙ listed_at g.R.Listed.layout _ g.R.Listed.first g.R.Listed.second _ _ _ _ _ _ c.first-a.ensures c.second-b.ensures
