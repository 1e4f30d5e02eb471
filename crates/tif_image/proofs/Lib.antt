pub mod Values
pub mod Dots
pub mod Rows
pub mod Passes
