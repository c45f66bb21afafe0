-- believed
pub mod Decimal
pub mod Signed
pub mod Writing
-- computed: lines::read_line
pub mod Reading
