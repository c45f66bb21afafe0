-- What the functions' proofs ask, and why the records are those of the definition.
mod EntryLaws
mod RuleLaws
mod OrderLaws
mod SinkLaws
mod PassLaws
mod Sameness
mod ByLine
mod FoundLaws
mod Places
mod Records
mod Lists
