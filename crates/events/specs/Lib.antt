-- believed of any tables
pub mod Outcome
pub mod Event
-- computed: judge::step
pub mod Heard
