-- `Telling`, `Staying`, `Clearing`, `Filling` and, for buffers, `PinGuideLaws` have what a caller cites: what a guide tells of the rows, and that it stays one. The others serve the proofs of this crate.
mod Lowest
mod SpreadLaws
mod WordLaws
mod TallyLaws
mod Changes
mod ListingLaws
mod NamedLaws
mod MaskLaws
mod Kept
mod FreeLaws
mod Cells
pub mod Telling
mod Known
pub mod Staying
pub mod Clearing
pub mod Filling
pub mod PinGuideLaws
mod Steps
mod RowSteps
mod ReferenceSteps
mod PinSteps
