pub mod Parts
pub mod Answered
