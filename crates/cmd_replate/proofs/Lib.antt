pub mod Owed
pub mod Changing
