-- computed: judge::step, called_is_acted, returned_is_acted, stated_is_acted, identified_is_acted, rows_of_locals
pub mod Rows
pub mod Books
pub mod Calls
pub mod Returns
pub mod Statements
