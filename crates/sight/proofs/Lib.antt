pub mod LeadLaws
pub mod AnyLaws
pub mod SpotLaws
pub mod RowLaws
pub mod SightLaws
pub mod ReturnLaws
