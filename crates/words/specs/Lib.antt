-- believed
pub mod Choice
pub mod Lists
pub mod Text
