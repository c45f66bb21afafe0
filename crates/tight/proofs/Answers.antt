-- That the promises of the answers are tight. Assumes nothing.
use Rattle.answers.proofs as answers
use Rattle.answers.specs.contracts as of_answers
use Rattle.tight.specs.Tight.{Tight}
use Rattle.tight.proofs.Shapes.{by_reply}

pub none_tight : Tight of_answers.Findings.none.ended answers.Findings.none.Reads.Asked answers.Findings.none.Reads.Learnt
none_tight κs args = (tt, by_reply)

pub and_if_tight : Tight of_answers.Findings.and_if.ended answers.Findings.and_if.Reads.Asked answers.Findings.and_if.Reads.Learnt
and_if_tight κs args = (tt, by_reply)

pub findings_tight : Tight of_answers.Judged.findings.ended answers.Judged.findings.Reads.Asked answers.Judged.findings.Reads.Learnt
findings_tight κs args = (tt, by_reply)
