pub mod Tests
pub mod Numbered
pub mod Fits
pub mod RoundTrip
pub mod Refusals
pub mod Meant
pub mod Again
pub mod Worked
pub mod Content
pub mod Listed
pub mod Every
pub mod Formed
mod Cut
mod Field
mod Gathering
mod RangeLaws
pub mod FormLaws
mod Signs
mod ToldLaws
mod HeadLaws
pub mod GatheredLaws
pub mod Answered
mod SlotLaws
