-- `exported::stop_told` meets its contract. Assumes nothing.
use mathlib.Core.Path.{sym, ap, ◌∙◌}
use mir.Syntax.{w32}
use mir.Facts.{to_z-of_z}
use Rattle.exported.specs.Pieced.{stop_told}
use borrow.Author.Rules.{rules}
use Rattle.exported.proofs.stop_told.Goals as goal

pub returns-in-Refused : goal.returns-in-Refused
returns-in-Refused c = to_z-of_z {w = w32} {z = c.told.result} (search rules) ∙ c.told.ensures ∙ sym (ap stop_told c.in-Refused.is)

pub returns-in-Full : goal.returns-in-Full
returns-in-Full c = sym (ap stop_told c.in-Full.is)

pub returns-in-More : goal.returns-in-More
returns-in-More c = sym (ap stop_told c.in-More.is)

pub returns-in-End : goal.returns-in-End
returns-in-End c = sym (ap stop_told c.in-End.is)
