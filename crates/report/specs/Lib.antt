-- believed of any tables
pub mod Shown
