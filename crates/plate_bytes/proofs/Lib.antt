pub mod Counts
pub mod Growing
pub mod Seams
pub mod Worked
