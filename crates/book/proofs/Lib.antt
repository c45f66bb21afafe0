pub mod Rows
pub mod Stacks
pub mod Frames
pub mod Items
pub mod Changing
pub mod Elsewhere
pub mod AllThreads
pub mod Tracing
pub mod Fitness
mod UnfitCases
mod Natives
pub mod Steps
