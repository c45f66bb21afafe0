-- `writer::fields_width` meets its contract. The loop keeps that the bytes counted and those to come are all of them. Assumes nothing.
use mathlib.Core.Path.{ap}
use native.Mathlib.Omega.{arith}
use lib.ListN.{length}
use Rattle.writer.proofs.Laid.{rest_length, rest_end}
use Rattle.writer.proofs.fields_width.Goals as goal

pub loop-i-init : goal.loop-i-init
loop-i-init c = (omega arith, omega arith, omega arith)

pub loop-i-preserved : goal.loop-i-preserved
loop-i-preserved c =
    let a = c.args in
    let l = c.loop-i in
    let e = rest_length a.minus a.v.now l.i (omega arith) in
    (omega arith, omega (arith, c.field_width.ensures.1, l.invariant.1), omega (arith, c.field_width.ensures.0, l.invariant.2))

pub returns : goal.returns
returns c =
    let a = c.args in
    let l = c.loop-i in
    let e = ap length (rest_end a.minus a.v.now l.i (omega arith)) in
    (omega (arith, l.invariant.2), omega (arith, l.invariant.1))
