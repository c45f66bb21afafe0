pub mod Found
pub mod OfLine
pub mod Numbers
