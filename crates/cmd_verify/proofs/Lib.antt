pub mod Owed
pub mod Verifying
