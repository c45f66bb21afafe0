-- `run::aimed` meets its contract. Assumes nothing.
use mathlib.Core.Path.{refl}
use native.Mathlib.Omega.{arith}
use Rattle.run.proofs.Ways.{line_within, aim_line, aim_full, aim_more, aim_end}
use Rattle.run.proofs.aimed.Goals as goal

pub returns-then-size-way-lt-MOST_SHOWN : goal.returns-then-size-way-lt-MOST_SHOWN
returns-then-size-way-lt-MOST_SHOWN c = (c.stopped.ensures.0, aim_full _ _ _ _ c.next_line-next.ensures c.in-Line.is c.if-size-way-lt-MOST_SHOWN.true c.stopped.ensures.0 c.stopped.ensures.1 c.stopped.ensures.2)

pub overflow_add-line : goal.overflow_add-line
overflow_add-line c = omega (arith, line_within _ c.args.size c.args.input.now c.args.way c.next_line-next.ensures c.in-Line.is c.requires.0)

pub returns-else-size-way-lt-MOST_SHOWN : goal.returns-else-size-way-lt-MOST_SHOWN
returns-else-size-way-lt-MOST_SHOWN c =
    let aim = aim_line _ _ _ c.args.way c.next_line-next.ensures c.in-Line.is c.requires.0 c.requires.1 c.if-size-way-lt-MOST_SHOWN.false in
    (record { at = refl; put = refl; findings = refl }, aim (record { at = refl; put = refl; findings = refl }) refl)

pub returns-in-More : goal.returns-in-More
returns-in-More c = (c.stopped-in-More.ensures.0, aim_more _ _ _ _ c.next_line-next.ensures c.in-More.is c.stopped-in-More.ensures.0 c.stopped-in-More.ensures.1 c.stopped-in-More.ensures.2)

pub returns-in-End : goal.returns-in-End
returns-in-End c = (c.stopped-in-End.ensures.0, aim_end _ _ _ _ c.next_line-next.ensures c.in-End.is c.stopped-in-End.ensures.0 c.stopped-in-End.ensures.1 c.stopped-in-End.ensures.2)
