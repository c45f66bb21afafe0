-- believed
pub mod Supers
pub mod Identities
-- words
pub mod Placed
