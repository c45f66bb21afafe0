-- believed
pub mod Line
pub mod Forms
pub mod Reading
pub mod Writing
pub mod Events
pub mod Apart
pub mod Numbered
-- computed: lines::read_line, lines::apart::read_apart, made_numbers
pub mod Sizes
pub mod Gathered
-- words
pub mod Handed
