pub mod Groups
pub mod Inks
pub mod Paths
pub mod Plates
pub mod Rows
pub mod Spot
pub mod Sides
