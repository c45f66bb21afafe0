-- `exported::weir_leaks` meets its contract. Assumes nothing.
use mathlib.Core.Path.{◌∙◌}
use mir.Syntax.{w32}
use mir.Facts.{to_z-of_z}
use Rattle.exported.proofs.Listing.{few_listed, listing_told}
use mathlib.Core.List.{[]}
use borrow.Author.Rules.{rules}
use Rattle.exported.proofs.weir_leaks.Goals as goal

pub number_listed-requires : goal.number_listed-requires
number_listed-requires c = few_listed _ _ c.list-listed.result (c.list-listed.ensures [])

pub returns : goal.returns
returns c = λ cs. listing_told _ _ c.list-listed.result (c.list-listed.ensures cs) (to_z-of_z {w = w32} {z = c.number_listed.result} (search rules) ∙ c.number_listed.ensures)
