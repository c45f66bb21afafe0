-- believed of any tables
pub mod Running
-- computed: run::run_lines
pub mod Way
pub mod Fit
-- words
pub mod Following
pub mod Passing
