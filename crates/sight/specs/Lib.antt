-- computed: judge::step
pub mod Spots
pub mod Returns
pub mod Sights
