-- `writer::write_event` meets its contract. Assumes nothing.
use mathlib.Core.Path.{ap, ◌∙◌}
use Rattle.lines.specs.Reading.{Read}
use Rattle.lines.specs.Events.{wrote, left}
use Rattle.writer.proofs.Taking.{good_taken, bad_taken}
use borrow.Author.Rules.{rules}
use Rattle.writer.proofs.write_event.Goals as goal

pub returns-in_default : goal.returns-in_default
returns-in_default c =
    let a = c.args in
    let m = bad_taken a.e a.h (search rules) c.take_apart.ensures (search rules) in
    (ap (λ (x : Read). wrote x a.d.now) m, ap (λ (x : Read). left x a.d.now) m)

pub returns : goal.returns
returns c =
    let a = c.args in
    let m = good_taken a.e a.h (search rules) c.take_apart.ensures c.in-Some.is in
    (c.write_numbers.ensures.0 ∙ ap (λ (x : Read). wrote x a.d.now) m, c.write_numbers.ensures.1 ∙ ap (λ (x : Read). left x a.d.now) m)
