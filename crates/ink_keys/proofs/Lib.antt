pub mod Adding
pub mod Columns
pub mod Plates
pub mod Ranges
pub mod Turning
pub mod Words
