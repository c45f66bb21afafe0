-- `ViewLaws`, `ExactLaws` and `TableLaws` have what a caller cites; `ScanLaws`, `BitLaws` and `MarkLaws` what any word of marks obeys, `SlotLaws` and `RowLaws` what any list of slots
-- and any rows of numbers do; the others serve the proofs of this crate.
pub mod ScanLaws
pub mod BitLaws
pub mod MarkLaws
mod CellLaws
pub mod TableLaws
pub mod FreeLaws
mod ClassLaws
pub mod SlotLaws
pub mod RowLaws
pub mod ViewLaws
pub mod ExactLaws
