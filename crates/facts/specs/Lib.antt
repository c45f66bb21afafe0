-- believed
pub mod Table
pub mod Named
pub mod Results
pub mod Classes
pub mod Identities
-- computed: facts::places::places_of, facts::result_of, facts::family, facts::identities::wanted_of, facts::identities::writes_field
pub mod Letters
pub mod Places
