-- `report::put_field` meets its contract. Assumes nothing.
use Rattle.numbers.specs.Decimal.{digits}
use Rattle.report.proofs.Parts.{to_fits, fills_one, not_short}
use borrow.Author.Rules.{rules}
use Rattle.report.proofs.put_field.Goals as goal

pub bounds-d-p : goal.bounds-d-p
bounds-d-p c = let a = c.args in to_fits a.d.now a.at (digits a.n) a.after c.requires c.write.ensures c.in-Some.is

pub overflow_add-result : goal.overflow_add-result
overflow_add-result c = let a = c.args in let h = to_fits a.d.now a.at (digits a.n) a.after c.requires c.write.ensures c.in-Some.is in search rules

pub returns-in-Some : goal.returns-in-Some
returns-in-Some c = let a = c.args in fills_one a.d.now a.at (digits a.n) a.after c.requires c.write.ensures c.in-Some.is

pub returns-in-None : goal.returns-in-None
returns-in-None c = let a = c.args in absurd (not_short a.d.now a.at (digits a.n) a.after c.requires c.write.ensures c.in-None.is)
