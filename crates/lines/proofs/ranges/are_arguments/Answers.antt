-- `lines::ranges::are_arguments` meets its contract. The loop keeps that the handles seen and those to come pass together where all do. Assumes nothing.
use mathlib.Core.Path.{refl, ap, sym, ◌∙◌}
use native.Mathlib.Omega.{arith}
use lib.ListN.{take, length-take}
use lib.Seq.{get_or-take}
use Rattle.lines.specs.Line.{is_argument}
use Rattle.lines.proofs.Every.{every_next, every_end}
use borrow.Author.Rules.{rules}
use Rattle.lines.proofs.ranges.are_arguments.Goals as goal

pub loop-i-init : goal.loop-i-init
loop-i-init c = (search rules, refl)

pub loop-i-preserved : goal.loop-i-preserved
loop-i-preserved c =
    let j = c.loop-i.invariant in
    let a = c.args in
    let i = c.loop-i.i in
    (j.0, sym (every_next is_argument (take a.n a.v) i c.loop-i.ok (let l = length-take a.n a.v in let q = j.0 in omega arith) (c.is_argument-ok.ensures ∙ ap is_argument (sym (get_or-take a.n a.v i 0 c.loop-i-test.true)))) ∙ j.1)

pub returns : goal.returns
returns c =
    let j = c.loop-i.invariant in
    let a = c.args in
    sym (every_end is_argument (take a.n a.v) c.loop-i.i c.loop-i.ok (let l = length-take a.n a.v in let q = j.0 in omega arith)) ∙ j.1
