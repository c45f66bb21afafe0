-- believed
pub mod Answer
-- computed: answers::Judged::findings, weigh: call_found
pub mod Listed
