-- believed
pub mod Layout
-- believed of any tables
pub mod Threads
pub mod Moves
pub mod Unfit
pub mod Changes
-- computed: book::unfit
pub mod Turns
