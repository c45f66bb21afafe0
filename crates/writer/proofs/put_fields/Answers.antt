-- `writer::put_fields` meets its contract. The loop keeps that what stands there with the numbers to come is all of them put. Assumes nothing.
use mathlib.Core.Path.{refl, ap, ap₂, sym, ◌∙◌}
use mathlib.Core.List.{List}
use Prim.Native.Nat.{ℕ, ◌+◌}
use native.Mathlib.Omega.{arith}
use lib.ListN.{length}
use Rattle.numbers.specs.Writing.{put}
use Rattle.numbers.proofs.Put.{put_none}
use Rattle.writer.proofs.Laid.{rest, rest_length, rest_end, put_next}
use Rattle.writer.proofs.put_fields.Goals as goal

pub loop-i-init : goal.loop-i-init
loop-i-init c = (omega arith, refl, refl, refl)

pub put_field-at-requires : goal.put_field-at-requires
put_field-at-requires c =
    let a = c.args in
    let l = c.loop-i in let e = rest_length a.minus a.v.now l.i (omega arith) in omega (arith, c.requires, l.invariant.1, l.invariant.3)

pub loop-i-preserved : goal.loop-i-preserved
loop-i-preserved c =
    let a = c.args in
    let l = c.loop-i in
    let f = c.put_field-at in
    let e = rest_length a.minus a.v.now l.i (omega arith) in (
      omega arith,
      omega (arith, f.ensures.0, l.invariant.1),
      ap₂ (λ (x : List ℕ) (n : ℕ). put x n (rest a.minus a.v.now (l.i + 1))) f.ensures.1 f.ensures.0
          ∙ put_next l.d l.at a.minus a.v.now l.i (omega arith) (omega (arith, c.requires, l.invariant.1, l.invariant.3))
          ∙ l.invariant.2,
      f.auto.d ∙ l.invariant.3,
    )

pub shape_of-d : goal.shape_of-d
shape_of-d c = c.loop-i.invariant.3

pub returns : goal.returns
returns c =
    let a = c.args in
    let l = c.loop-i in
    let z = rest_end a.minus a.v.now l.i (omega arith) in
    let e = ap length z in
    (omega (arith, l.invariant.1), sym (put_none l.d l.at) ∙ ap (put l.d l.at) (sym z) ∙ l.invariant.2)
