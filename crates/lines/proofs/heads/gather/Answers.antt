-- `lines::heads::gather` meets its contract. The loop keeps that what is gathered so far with the fields to come is what all of them give. Assumes nothing.
use mathlib.Core.Path.{ap, ap₂, sym, subst, ◌∙◌}
use Prim.Native.Nat.{ℕ, ◌+◌, ◌<◌}
use native.Mathlib.Omega.{arith}
use Rattle.words.specs.Text.{tab}
use Rattle.numbers.specs.Reading.{found}
use Rattle.numbers.specs.declared.Found.{Found}
use Rattle.lines.specs.Line.{largest}
use Rattle.lines.specs.Forms.{most_fields}
use Rattle.lines.specs.Gathered.{fields_from, Gathered, gathered_as, taken, gathered}
use Rattle.lines.proofs.Gathering.{turn, over_end, next_fits, nothing_mends}
use Rattle.lines.proofs.heads.gather.Goals as goal

pub returns-then-t-gt-MOST_FIELDS : goal.returns-then-t-gt-MOST_FIELDS
returns-then-t-gt-MOST_FIELDS c =
    let a = c.args in
    let l = c.loop-at in
    let g = gathered_as l.t l.values in
    let f = found largest tab a.s.now l.at in
    let e = (c.take_field-t.ensures ∙ ap (λ (x : Found). taken a.signed g x.field) c.read-found.ensures) in
    let o = subst (λ (x : Gathered). most_fields < x.tally.count) e c.if-t-gt-MOST_FIELDS.true in
    e ∙ sym (nothing_mends a.signed g f.field (fields_from a.s.now (f.next + 1)) o) ∙ sym (turn a.signed g a.s.now l.at c.loop-at-test.true) ∙ l.invariant

pub overflow_add-at : goal.overflow_add-at
overflow_add-at c = let k = next_fits c.args.s.now c.loop-at.at c.loop-at-test.true in let m = ap (λ (x : Found). x.next) c.read-found.ensures in omega arith

pub loop-at-smaller : goal.loop-at-smaller
loop-at-smaller c = let k = next_fits c.args.s.now c.loop-at.at c.loop-at-test.true in let m = ap (λ (x : Found). x.next) c.read-found.ensures in omega arith

pub loop-at-preserved : goal.loop-at-preserved
loop-at-preserved c =
    let a = c.args in
    let l = c.loop-at in
    let g = gathered_as l.t l.values in
    ap₂ (λ (x : Gathered) (n : ℕ). gathered a.signed x (fields_from a.s.now (n + 1))) (c.take_field-t.ensures ∙ ap (λ (x : Found). taken a.signed g x.field) c.read-found.ensures) (ap (λ (x : Found). x.next) c.read-found.ensures) ∙ sym (turn a.signed g a.s.now l.at c.loop-at-test.true) ∙ l.invariant

pub returns : goal.returns
returns c =
    let a = c.args in
    let l = c.loop-at in
    sym (over_end a.signed (gathered_as l.t l.values) a.s.now l.at c.loop-at-test.false) ∙ l.invariant
