-- `exported::weir_step` meets its contract. Assumes nothing.
use mathlib.Core.Path.{◌∙◌}
use mir.Syntax.{w32}
use mir.Facts.{to_z-of_z}
use native.Mathlib.Omega.{arith}
use Rattle.run.proofs.Answering.{few_counted}
use Rattle.exported.proofs.Answered.{whole_told, short_told}
use borrow.Author.Rules.{rules}
use Rattle.exported.proofs.weir_step.Goals as goal

pub returns-then-found-lt-MOST_NUMBERS : goal.returns-then-found-lt-MOST_NUMBERS
returns-then-found-lt-MOST_NUMBERS c = short_told _ _ _ c.if-found-lt-MOST_NUMBERS.true

pub tell-requires : goal.tell-requires
tell-requires c = (few_counted _ _ _ _ c.step-answer.ensures, omega (arith, c.if-found-lt-MOST_NUMBERS.false))

pub returns : goal.returns
returns c = whole_told _ _ c.step-answer.ensures _ (omega (arith, c.if-found-lt-MOST_NUMBERS.false)) c.tell.ensures.1 (to_z-of_z {w = w32} {z = c.tell.result} (search rules) ∙ c.tell.ensures.0)
