pub mod Records
pub mod Lent
pub mod Judging
pub mod Reading
pub mod Turning
pub mod Turns
pub mod Finishing
