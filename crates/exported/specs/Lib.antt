-- believed of any tables
pub mod Told
pub mod Pieced
pub mod Judged
pub mod Listed
