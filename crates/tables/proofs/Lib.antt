pub mod RowCounts
pub mod Sights
pub mod Leaking
pub mod Lending
pub mod Keeping
mod Shown
mod Ending
