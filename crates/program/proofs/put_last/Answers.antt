-- `program::put_last` meets its contract. Assumes nothing.
use native.Mathlib.Omega.{arith}
use Rattle.run.proofs.Putting.{last_put, last_fits}
use borrow.Author.Rules.{rules}
use Rattle.program.proofs.put_last.Goals as goal

pub returns : goal.returns
returns c =
    let last = last_put c.args.run.findings c.is_closed-closed.ensures c.lines_of-lines.ensures c.number_of-refusal.ensures c.end_width-width.ensures c.put_end.ensures in
    (last.width, omega (arith, last.short), last_fits last (search rules))
