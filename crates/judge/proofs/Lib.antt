pub mod Reading
pub mod ByTables
pub mod Moving
