-- `lines::apart::tell_sizes` meets its contract. Assumes nothing.
use mathlib.Core.Path.{ap}
use borrow.Author.Rules.{rules}
use Rattle.lines.specs.declared.forms.Counts.{Counts}
use Rattle.lines.proofs.ToldLaws.{told_plain, told_none, told_signed}
use Rattle.lines.proofs.apart.tell_sizes.Goals as goal
use Rattle.lines.proofs.apart.tell_sizes.Goals.{else-minus-via-then-minus+else-at-lt-MOST_FIELDS, else-minus-via-else-minus}

pub returns-then-at-lt-MOST_FIELDS : goal.returns-then-at-lt-MOST_FIELDS
returns-then-at-lt-MOST_FIELDS c =
    let a = c.args in
    rw c.if-minus.true (told_signed a.letter a.v.now (search rules) (ap (λ (f : Counts). f.signed) c.counts_of-at.ensures) c.if-at-lt-MOST_FIELDS.true c.below_zero.ensures)

pub returns-else-minus : goal.returns-else-minus
returns-else-minus c =
    let a = c.args in
    elim c.else-minus.branch [
      | else-minus-via-then-minus+else-at-lt-MOST_FIELDS w ↦ rw w.if-minus.true (told_none a.letter a.v.now (search rules) (ap (λ (f : Counts). f.signed) c.counts_of-at.ensures) w.if-at-lt-MOST_FIELDS.false)
      | else-minus-via-else-minus w ↦ rw w.if-minus.false (told_plain a.letter a.v.now (search rules))
    ]
