-- `lines::forms::counts_of` meets its contract. Assumes nothing.
use borrow.Author.Tests.{ne_eqb}
use Rattle.lines.specs.Forms.{of_letter}
use Rattle.lines.proofs.forms.counts_of.Goals as goal

pub returns-in-78 : goal.returns-in-78
returns-in-78 c = unfold of_letter in rw c.in-78.is

pub returns-in-88 : goal.returns-in-88
returns-in-88 c = unfold of_letter in rw c.in-88.is

pub returns-in-67 : goal.returns-in-67
returns-in-67 c = unfold of_letter in rw c.in-67.is

pub returns-in-82 : goal.returns-in-82
returns-in-82 c = unfold of_letter in rw c.in-82.is

pub returns-in-65 : goal.returns-in-65
returns-in-65 c = unfold of_letter in rw c.in-65.is

pub returns-in-68 : goal.returns-in-68
returns-in-68 c = unfold of_letter in rw c.in-68.is

pub returns-in-75 : goal.returns-in-75
returns-in-75 c = unfold of_letter in rw c.in-75.is

pub returns-in-79 : goal.returns-in-79
returns-in-79 c = unfold of_letter in rw c.in-79.is

pub returns-in-77 : goal.returns-in-77
returns-in-77 c = unfold of_letter in rw c.in-77.is

pub returns-in-90 : goal.returns-in-90
returns-in-90 c = unfold of_letter in rw c.in-90.is

pub returns-in_default : goal.returns-in_default
returns-in_default c =
    unfold of_letter in let r = c.in_default.in_default-own.rest in let b = c.args.letter in
    rw (ne_eqb b 78 r.0.0.0.0.0.0.0.0.0.1, ne_eqb b 88 r.0.0.0.0.0.0.0.0.1, ne_eqb b 67 r.0.0.0.0.0.0.0.1, ne_eqb b 82 r.0.0.0.0.0.0.1, ne_eqb b 65 r.0.0.0.0.0.1, ne_eqb b 68 r.0.0.0.0.1, ne_eqb b 75 r.0.0.0.1, ne_eqb b 79 r.0.0.1, ne_eqb b 77 r.0.1, ne_eqb b 90 r.1)
