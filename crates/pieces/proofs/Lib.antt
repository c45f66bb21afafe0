pub mod Sizes
pub mod Nexts
pub mod Shifts
pub mod Cuts
pub mod Runs
mod FirstLf
