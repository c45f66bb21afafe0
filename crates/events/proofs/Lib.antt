pub mod Signs
pub mod Outcomes
pub mod Following
pub mod Making
pub mod Few
pub mod Dispatch
pub mod Moving
