-- That the promises of the exported writers are tight. Assumes nothing.
use Rattle.recorder.proofs as recorder
use Rattle.recorder.specs.contracts as of_recorder
use Rattle.tight.specs.Tight.{Tight}
use Rattle.tight.proofs.Shapes.{by_reply_and_slice}

pub weir_enter_tight : Tight of_recorder.weir_enter.ended recorder.weir_enter.Reads.Asked recorder.weir_enter.Reads.Learnt
weir_enter_tight κs args = (tt, by_reply_and_slice)

pub weir_leave_tight : Tight of_recorder.weir_leave.ended recorder.weir_leave.Reads.Asked recorder.weir_leave.Reads.Learnt
weir_leave_tight κs args = (tt, by_reply_and_slice)

pub weir_call_tight : Tight of_recorder.weir_call.ended recorder.weir_call.Reads.Asked recorder.weir_call.Reads.Learnt
weir_call_tight κs args = (tt, by_reply_and_slice)

pub weir_return_tight : Tight of_recorder.weir_return.ended recorder.weir_return.Reads.Asked recorder.weir_return.Reads.Learnt
weir_return_tight κs args = (tt, by_reply_and_slice)

pub weir_attach_tight : Tight of_recorder.weir_attach.ended recorder.weir_attach.Reads.Asked recorder.weir_attach.Reads.Learnt
weir_attach_tight κs args = (tt, by_reply_and_slice)

pub weir_detach_tight : Tight of_recorder.weir_detach.ended recorder.weir_detach.Reads.Asked recorder.weir_detach.Reads.Learnt
weir_detach_tight κs args = (tt, by_reply_and_slice)

pub weir_declare_tight : Tight of_recorder.weir_declare.ended recorder.weir_declare.Reads.Asked recorder.weir_declare.Reads.Learnt
weir_declare_tight κs args = (tt, by_reply_and_slice)

pub weir_state_tight : Tight of_recorder.weir_state.ended recorder.weir_state.Reads.Asked recorder.weir_state.Reads.Learnt
weir_state_tight κs args = (tt, by_reply_and_slice)

pub weir_identify_tight : Tight of_recorder.weir_identify.ended recorder.weir_identify.Reads.Asked recorder.weir_identify.Reads.Learnt
weir_identify_tight κs args = (tt, by_reply_and_slice)

pub weir_end_tight : Tight of_recorder.weir_end.ended recorder.weir_end.Reads.Asked recorder.weir_end.Reads.Learnt
weir_end_tight κs args = (tt, by_reply_and_slice)
