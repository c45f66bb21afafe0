-- believed
pub mod Whole
-- computed: trace::judge_trace
pub mod Running
