pub mod Putting
pub mod Going
pub mod Reporting
