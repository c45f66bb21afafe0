-- believed
pub mod Answers
