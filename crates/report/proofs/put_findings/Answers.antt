-- `report::put_findings` meets its contract. Assumes nothing.
use native.Mathlib.Omega.{arith}
use Rattle.numbers.proofs.Put.{short}
use Rattle.report.proofs.Parts.{fills_puts}
use Rattle.report.proofs.put_findings.Goals as goal

pub put_answer-requires : goal.put_answer-requires
put_answer-requires c = omega (arith, c.findings_width.ensures.0, c.has_room.ensures.0 c.if-has_room.true)

pub returns-then-has_room : goal.returns-then-has_room
returns-then-has_room c = fills_puts c.put_answer.ensures

pub returns-else-has_room : goal.returns-else-has_room
returns-else-has_room c = short (omega (arith, c.findings_width.ensures.0, c.has_room.ensures.1 c.if-has_room.false))
