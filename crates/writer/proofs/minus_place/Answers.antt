-- `writer::minus_place` meets its contract. Assumes nothing.
use mathlib.Core.Path.{ap}
use borrow.Author.Tests.{not-true, not-false}
use Rattle.lines.specs.declared.forms.Counts.{Counts}
use mathlib.Core.Bool.{not}
use Rattle.writer.proofs.minus_place.Goals as goal

pub returns-then-not-minus : goal.returns-then-not-minus
returns-then-not-minus c = rw (not-true c.args.minus (ap not c.if-not-minus.true))

pub returns : goal.returns
returns c = rw (not-false c.args.minus (ap not c.if-not-minus.false)) (ap (λ (f : Counts). f.signed) c.counts_of-counts.ensures)
