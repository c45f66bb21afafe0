-- That the promises of the judging of a whole trace are tight. Assumes nothing.
use Rattle.trace.proofs as trace
use Rattle.trace.specs.contracts as of_trace
use Rattle.trace.specs.Whole.{Outcome}
use Rattle.tight.specs.Tight.{given, Tight}
use Rattle.tight.proofs.Shapes.{by, with_tables}

pub judge_trace_tight : Tight of_trace.judge_trace.ended trace.judge_trace.Reads.Asked trace.judge_trace.Reads.Learnt
judge_trace_tight κs args = (tt, λ x y. by (λ (o : Outcome). given o.reply (tt, with_tables o.tables (o.out, tt))))
