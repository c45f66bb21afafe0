-- `writer::put_line` meets its contract. Assumes nothing.
use mathlib.Core.Path.{◌≡◌, ap, ◌∙◌}
use mathlib.Core.List.{List}
use Prim.Native.Nat.{ℕ}
use native.Mathlib.Omega.{arith}
use lib.ListN.{length, set, length-set}
use Rattle.words.specs.Text.{line_feed}
use Rattle.lines.specs.Sizes.{signed_at}
use Rattle.writer.proofs.Laid.{writes_short, writes_framed, length_lettered}
use Rattle.writer.proofs.put_line.Goals as goal

pub returns-then-d-w : goal.returns-then-d-w
returns-then-d-w c =
    let a = c.args in
    let l = length_lettered a.letter (signed_at 0 a.minus a.v.now) in writes_short (omega (arith, c.fields_width-w.ensures.0))

pub put_fields-at-requires : goal.put_fields-at-requires
put_fields-at-requires c = simp length-set (omega (arith, c.fields_width-w.ensures.0))

pub bounds-d-at : goal.bounds-d-at
bounds-d-at c =
    let a = c.args in
    let l : length c.put_fields-at.new.d ≡ length a.d.now = c.put_fields-at.auto.d ∙ length-set a.d.now 0 a.letter in omega (arith, c.fields_width-w.ensures.0, c.put_fields-at.ensures.0)

pub shape_of-d : goal.shape_of-d
shape_of-d c = simp length-set (simp length-set at c.put_fields-at.auto.d)

pub returns : goal.returns
returns c =
    let a = c.args in
    writes_framed a.d.now a.letter (signed_at 0 a.minus a.v.now) (omega (arith, c.fields_width-w.ensures.0)) c.put_fields-at.ensures.0 (ap (λ (x : List ℕ). set x c.put_fields-at.result line_feed) c.put_fields-at.ensures.1)
