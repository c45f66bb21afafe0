-- computed: judge::step, call_found, leave_found, return_found, detach_found, end_found
pub mod Enter
pub mod Leave
pub mod Call
pub mod Returns
pub mod Attach
pub mod Detach
pub mod End
pub mod Declare
pub mod State
pub mod Identify
