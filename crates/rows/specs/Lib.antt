-- What the lent rows and marks are, and what each function does to them.
-- believed
pub mod Marks
pub mod Table
pub mod References
pub mod Pins
pub mod Slots
-- believed of any tables
pub mod Scan
pub mod View
pub mod Exact
-- computed: judge::step
pub mod Tests
-- computed: run::run_lines
pub mod Frees
