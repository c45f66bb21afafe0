-- believed of any tables
pub mod Tight
