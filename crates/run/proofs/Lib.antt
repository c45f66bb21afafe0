pub mod Putting
pub mod Following
pub mod Answering
pub mod Ways
pub mod Going
pub mod Passing
mod Filling
mod Touching
mod Fitting
mod Guided
