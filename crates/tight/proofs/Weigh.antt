-- That the promises of the weighing of a line are tight. Assumes nothing.
use Rattle.weigh.proofs as weigh
use Rattle.weigh.specs.contracts as of_weigh
use Rattle.tight.specs.Tight.{Tight}
use Rattle.tight.proofs.Shapes.{by_reply}

pub attach_turn_tight : Tight of_weigh.attach.in_turn.ended weigh.attach.in_turn.Reads.Asked weigh.attach.in_turn.Reads.Learnt
attach_turn_tight κs args = (tt, by_reply)

pub call_allows_tight : Tight of_weigh.call.allows.ended weigh.call.allows.Reads.Asked weigh.call.allows.Reads.Learnt
call_allows_tight κs args = (tt, by_reply)

pub call_findings_tight : Tight of_weigh.call.findings.ended weigh.call.findings.Reads.Asked weigh.call.findings.Reads.Learnt
call_findings_tight κs args = (tt, by_reply)

pub declare_allows_tight : Tight of_weigh.declare.allows.ended weigh.declare.allows.Reads.Asked weigh.declare.allows.Reads.Learnt
declare_allows_tight κs args = (tt, by_reply)

pub detach_allows_tight : Tight of_weigh.detach.allows.ended weigh.detach.allows.Reads.Asked weigh.detach.allows.Reads.Learnt
detach_allows_tight κs args = (tt, by_reply)

pub detach_findings_tight : Tight of_weigh.detach.findings.ended weigh.detach.findings.Reads.Asked weigh.detach.findings.Reads.Learnt
detach_findings_tight κs args = (tt, by_reply)

pub end_findings_tight : Tight of_weigh.end.findings.ended weigh.end.findings.Reads.Asked weigh.end.findings.Reads.Learnt
end_findings_tight κs args = (tt, by_reply)

pub enter_turn_tight : Tight of_weigh.enter.in_turn.ended weigh.enter.in_turn.Reads.Asked weigh.enter.in_turn.Reads.Learnt
enter_turn_tight κs args = (tt, by_reply)

pub enter_allows_tight : Tight of_weigh.enter.allows.ended weigh.enter.allows.Reads.Asked weigh.enter.allows.Reads.Learnt
enter_allows_tight κs args = (tt, by_reply)

pub leave_allows_tight : Tight of_weigh.leave.allows.ended weigh.leave.allows.Reads.Asked weigh.leave.allows.Reads.Learnt
leave_allows_tight κs args = (tt, by_reply)

pub leave_findings_tight : Tight of_weigh.leave.findings.ended weigh.leave.findings.Reads.Asked weigh.leave.findings.Reads.Learnt
leave_findings_tight κs args = (tt, by_reply)

pub return_turn_tight : Tight of_weigh.returns.in_turn.ended weigh.returns.in_turn.Reads.Asked weigh.returns.in_turn.Reads.Learnt
return_turn_tight κs args = (tt, by_reply)

pub return_allows_tight : Tight of_weigh.returns.allows.ended weigh.returns.allows.Reads.Asked weigh.returns.allows.Reads.Learnt
return_allows_tight κs args = (tt, by_reply)

pub return_findings_tight : Tight of_weigh.returns.findings.ended weigh.returns.findings.Reads.Asked weigh.returns.findings.Reads.Learnt
return_findings_tight κs args = (tt, by_reply)

pub state_allows_tight : Tight of_weigh.state.allows.ended weigh.state.allows.Reads.Asked weigh.state.allows.Reads.Learnt
state_allows_tight κs args = (tt, by_reply)

pub identify_allows_tight : Tight of_weigh.identify.allows.ended weigh.identify.allows.Reads.Asked weigh.identify.allows.Reads.Learnt
identify_allows_tight κs args = (tt, by_reply)
