-- believed
pub mod Reply
-- computed: leaks::list
pub mod Entries
pub mod Found
pub mod Sorting
