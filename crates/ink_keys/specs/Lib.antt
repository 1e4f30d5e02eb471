pub mod Counts
pub mod Keys
pub mod Plates
pub mod Turn
