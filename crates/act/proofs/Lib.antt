pub mod Taking
pub mod Choosing
pub mod Owning
pub mod Calling
pub mod Counting
pub mod Returning
pub mod Stating
pub mod Whole
