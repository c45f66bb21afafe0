-- `exported::number_listed` meets its contract. Assumes nothing.
use mathlib.Core.Path.{sym, ap, ◌∙◌}
use mir.Syntax.{w32}
use mir.Facts.{to_z-of_z}
use Rattle.exported.specs.Listed.{number_listed}
use Rattle.exported.proofs.Listing.{count_fits, count_listed}
use borrow.Author.Rules.{rules}
use Rattle.exported.proofs.number_listed.Goals as goal

pub overflow_cast-result : goal.overflow_cast-result
overflow_cast-result c = count_fits _ _ c.in-Ok.is c.requires

pub returns-in-Ok : goal.returns-in-Ok
returns-in-Ok c = count_listed _ _ c.in-Ok.is c.requires

pub returns-in-Err : goal.returns-in-Err
returns-in-Err c = to_z-of_z {w = w32} {z = c.told.result} (search rules) ∙ c.told.ensures ∙ sym (ap number_listed c.in-Err.is)
