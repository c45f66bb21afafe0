-- That the promise of the loop over a piece of the input is tight. Assumes nothing.
use Rattle.run.proofs as run
use Rattle.run.specs.contracts as of_run
use Rattle.run.specs.Running.{Outcome}
use Rattle.tight.specs.Tight.{given, Tight}
use Rattle.tight.proofs.Shapes.{by, with_tables}

pub run_lines_tight : Tight of_run.run_lines.ended run.run_lines.Reads.Asked run.run_lines.Reads.Learnt
run_lines_tight κs args = (tt, λ x y. by (λ (o : Outcome). given o.reply (tt, (tt, with_tables o.left (o.out, tt)))))
