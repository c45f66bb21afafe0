-- `trace::put_last` meets its contract. Assumes nothing.
use Rattle.run.proofs.Putting.{last_put}
use Rattle.trace.proofs.Putting.{last_there}
use Rattle.trace.proofs.put_last.Goals as goal

pub returns : goal.returns
returns c =
    last_there (last_put c.args.run.findings c.is_closed-closed.ensures c.lines_of-lines.ensures c.number_of-refusal.ensures c.end_width-width.ensures c.put_end.ensures)
