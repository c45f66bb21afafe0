-- `report::put_three` meets its contract. Assumes nothing.
use native.Mathlib.Omega.{arith}
use Rattle.report.proofs.Parts.{length_parts, two_parts, three_parts, fills_then}
use Rattle.report.proofs.put_three.Goals as goal

pub put_field-i-requires : goal.put_field-i-requires
put_field-i-requires c = let a = c.args in omega (arith, c.requires, length_parts (three_parts a.a a.b a.c))

pub put_field-j-requires : goal.put_field-j-requires
put_field-j-requires c =
    let a = c.args in
    let x = c.put_field-i in
    omega (arith, c.requires, length_parts (three_parts a.a a.b a.c), length_parts (two_parts a.b a.c), x.auto.d, x.ensures.past)

pub put_field-requires : goal.put_field-requires
put_field-requires c =
    let a = c.args in
    let x = c.put_field-i in
    let y = c.put_field-j in
    omega (arith, c.requires, length_parts (three_parts a.a a.b a.c), length_parts (two_parts a.b a.c), x.auto.d, x.ensures.past, y.auto.d, y.ensures.past)

pub returns : goal.returns
returns c =
    let a = c.args in
    fills_then (three_parts a.a a.b a.c) c.put_field-i.ensures (fills_then (two_parts a.b a.c) c.put_field-j.ensures c.put_field.ensures)
