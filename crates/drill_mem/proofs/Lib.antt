pub mod Counting
pub mod Plates
