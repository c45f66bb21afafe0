-- `report::put_end` meets its contract. Assumes nothing.
use mathlib.Core.Path.{ap, sym}
use native.Mathlib.Omega.{arith}
use lib.ListN.{length}
use Rattle.numbers.proofs.Put.{short}
use Rattle.report.proofs.Parts.{length_parts, end_parts, fills_as, fills_then, fills_puts}
use Rattle.report.proofs.put_end.Goals as goal

pub put_bytes-i-requires : goal.put_bytes-i-requires
put_bytes-i-requires c = let a = c.args in omega (arith, ap length c.head_of.ensures.0, length_parts (end_parts a.closed a.lines a.refusal a.printed), c.end_width.ensures.0, c.has_room.ensures.0 c.if-has_room.true)

pub put_three-requires : goal.put_three-requires
put_three-requires c =
    let a = c.args in
    let x = c.put_bytes-i in
    omega (arith, ap length c.head_of.ensures.0, length_parts (end_parts a.closed a.lines a.refusal a.printed), c.end_width.ensures.0, c.has_room.ensures.0 c.if-has_room.true, x.auto.d, x.ensures.past)

pub returns-then-has_room : goal.returns-then-has_room
returns-then-has_room c = let a = c.args in fills_puts (fills_then (end_parts a.closed a.lines a.refusal a.printed) (fills_as (sym c.head_of.ensures.0) c.put_bytes-i.ensures) c.put_three.ensures)

pub returns-else-has_room : goal.returns-else-has_room
returns-else-has_room c = short (omega (arith, c.end_width.ensures.0, c.has_room.ensures.1 c.if-has_room.false))
