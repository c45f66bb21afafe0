-- believed
pub mod Tables
pub mod Listing
-- believed of any tables
pub mod Weighing
pub mod Acting
pub mod Stepping
-- computed: events::enter::enter
pub mod Lent
-- computed: sight::enter::enter
pub mod Looked
-- computed: tables::kept::end_frames
pub mod Unshown
