-- `exported::tell` meets its contract. Assumes nothing.
use Prim.Native.Nat.{◌≤◌}
use mathlib.Core.Path.{sym, ap, subst, ◌∙◌}
use Rattle.std.specs.Prelude.{IfOk}
use mir.Syntax.{w32}
use mir.Facts.{to_z-of_z}
use borrow.Author.Rules.{rules}
use Rattle.answers.specs.Answer.{Answer, most_found}
use Rattle.exported.specs.Told.{in_front, number_told, findings_in}
use Rattle.exported.proofs.Answered.{count_told}
use Rattle.exported.proofs.tell.Goals as goal

pub list-requires : goal.list-requires
list-requires c = (subst (λ (a : Answer). IfOk a (λ f. f.count ≤ most_found)) c.in-Ok.is c.requires.0, c.requires.1)

pub returns-in-Ok : goal.returns-in-Ok
returns-in-Ok c = (
  count_told _ (search rules) ∙ sym (ap number_told c.in-Ok.is),
  c.list.ensures ∙ sym (ap (λ (a : Answer). in_front (findings_in a) c.args.found.now) c.in-Ok.is),
)

pub returns-in-Err : goal.returns-in-Err
unfolding in_front
returns-in-Err c = (
  to_z-of_z {w = w32} {z = c.told.result} (search rules) ∙ c.told.ensures ∙ sym (ap number_told c.in-Err.is),
  sym (ap (λ (a : Answer). in_front (findings_in a) c.args.found.now) c.in-Err.is),
)
