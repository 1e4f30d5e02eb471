pub mod Distinct
pub mod Differences
mod Readers
mod Offsets
mod Rests
