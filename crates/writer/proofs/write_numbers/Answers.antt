-- `writer::write_numbers` meets its contract. Assumes nothing.
use mathlib.Core.Path.{◌≡◌, ap, sym, ◌∙◌}
use Prim.Native.Nat.{ℕ}
use native.Mathlib.Omega.{arith}
use lib.ListN.{length, take}
use lib.Seq.{length-take-le}
use Rattle.lines.specs.Writing.{lettered}
use Rattle.lines.specs.Sizes.{signed_at}
use Rattle.writer.proofs.Laid.{writes_as}
use Rattle.writer.proofs.Taking.{numbers_few, numbers_written}
use borrow.Author.Rules.{rules}
use Rattle.writer.proofs.write_numbers.Goals as goal

pub slice_bounds-v-end : goal.slice_bounds-v-end
slice_bounds-v-end c =
    let a = c.args in
    let ten : length a.v ≡ 10 = search rules in
    omega (arith, numbers_few a.letter a.n a.minus a.v a.d.now (sym c.event_of.ensures ∙ c.in_ok-event_of.was))

pub slice_bounds-put_line-end : goal.slice_bounds-put_line-end
slice_bounds-put_line-end c =
    let a = c.args in
    let ten : length a.v ≡ 10 = search rules in
    sym (length-take-le a.n a.v (omega (arith, numbers_few a.letter a.n a.minus a.v a.d.now (sym c.event_of.ensures ∙ c.in_ok-event_of.was))))

pub returns : goal.returns
returns c =
    let a = c.args in
    numbers_written a.letter a.n a.minus a.v a.d.now (sym c.event_of.ensures ∙ c.in_ok-event_of.was)
    (writes_as (ap (λ (k : ℕ). lettered a.letter (signed_at 0 k (take a.n a.v))) c.minus_place.ensures) c.put_line.ensures)
