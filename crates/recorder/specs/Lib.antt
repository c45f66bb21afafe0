-- believed
pub mod Told
