-- `report::put_leak` meets its contract. Assumes nothing.
use native.Mathlib.Omega.{arith}
use Rattle.numbers.proofs.Put.{short}
use Rattle.report.proofs.Parts.{length_parts, leak_parts, fields_parts, fills_then, fills_puts}
use Rattle.report.proofs.put_leak.Goals as goal

pub put_bytes-i-requires : goal.put_bytes-i-requires
put_bytes-i-requires c =
    let a = c.args in
    omega (arith, length_parts (leak_parts a.rule a.thread a.value a.line), c.leak_width.ensures.0, c.has_room.ensures.0 c.if-has_room.true)

pub put_field-j-requires : goal.put_field-j-requires
put_field-j-requires c =
    let a = c.args in
    let x = c.put_bytes-i in
    omega (arith, length_parts (leak_parts a.rule a.thread a.value a.line), c.leak_width.ensures.0, c.has_room.ensures.0 c.if-has_room.true, length_parts (fields_parts a.rule a.thread a.value a.line), x.auto.d, x.ensures.past)

pub put_three-requires : goal.put_three-requires
put_three-requires c =
    let a = c.args in
    let x = c.put_bytes-i in
    let y = c.put_field-j in
    omega (arith, length_parts (leak_parts a.rule a.thread a.value a.line), c.leak_width.ensures.0, c.has_room.ensures.0 c.if-has_room.true, length_parts (fields_parts a.rule a.thread a.value a.line), x.auto.d, x.ensures.past, y.auto.d, y.ensures.past)

pub returns-then-has_room : goal.returns-then-has_room
returns-then-has_room c =
    let a = c.args in
    fills_puts (fills_then (leak_parts a.rule a.thread a.value a.line) c.put_bytes-i.ensures (fills_then (fields_parts a.rule a.thread a.value a.line) c.put_field-j.ensures c.put_three.ensures))

pub returns-else-has_room : goal.returns-else-has_room
returns-else-has_room c = short (omega (arith, c.leak_width.ensures.0, c.has_room.ensures.1 c.if-has_room.false))
