-- believed of any tables
pub mod Outcome
