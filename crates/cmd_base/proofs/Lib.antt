pub mod Idle
pub mod Rows
pub mod Grow
pub mod Jobs
pub mod Owed
pub mod Told
pub mod Loads
