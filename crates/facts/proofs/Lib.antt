pub mod Outside
pub mod Each
pub mod Letters
pub mod Tested
pub mod FactsAgree
