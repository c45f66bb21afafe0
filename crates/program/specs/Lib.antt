-- believed
pub mod Printing
-- computed: program::judge_all
pub mod Progress
pub mod Listing
pub mod Running
