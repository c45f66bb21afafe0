-- `guide::listing::named_row` meets its contract. Assumes nothing.
use Rattle.guide.proofs.NamedLaws.{named_row_is}
use Rattle.guide.proofs.listing.named_row.Goals as goal

pub returns : goal.returns
returns g c = λ p e. named_row_is g.R.Listed.layout p _ _ _ _ _ _ _ _ _ _ _ c.room-n.ensures c.name_a.ensures.0 (c.row_or-a.ensures p e) c.name_b.ensures.0 (c.row_or-b.ensures p e) c.name_c.ensures.0 (c.row_or-c.ensures p e) c.min.ensures c.min-2.ensures
