-- believed
pub mod Calls
pub mod PastRows
pub mod Leaks
-- believed of any tables
pub mod Tied
pub mod Leaked
pub mod Demands
