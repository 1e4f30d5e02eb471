pub mod Owed
pub mod Pack
