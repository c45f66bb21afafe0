-- That the promises of the report are tight. Assumes nothing.
use Rattle.report.proofs as report
use Rattle.report.specs.contracts as of_report
use Rattle.tight.specs.Tight.{Tight}
use Rattle.tight.proofs.Shapes.{by_reply_first, by_puts}

pub findings_width_tight : Tight of_report.findings_width.ended report.findings_width.Reads.Asked report.findings_width.Reads.Learnt
findings_width_tight κs args = (tt, λ x y. by_reply_first x y)

pub put_findings_tight : Tight of_report.put_findings.ended report.put_findings.Reads.Asked report.put_findings.Reads.Learnt
put_findings_tight κs args = (tt, by_puts)

pub end_width_tight : Tight of_report.end_width.ended report.end_width.Reads.Asked report.end_width.Reads.Learnt
end_width_tight κs args = (tt, λ x y. by_reply_first x y)

pub put_end_tight : Tight of_report.put_end.ended report.put_end.Reads.Asked report.put_end.Reads.Learnt
put_end_tight κs args = (tt, by_puts)

pub leak_width_tight : Tight of_report.leak_width.ended report.leak_width.Reads.Asked report.leak_width.Reads.Learnt
leak_width_tight κs args = (tt, λ x y. by_reply_first x y)

pub put_leak_tight : Tight of_report.put_leak.ended report.put_leak.Reads.Asked report.put_leak.Reads.Learnt
put_leak_tight κs args = (tt, by_puts)
