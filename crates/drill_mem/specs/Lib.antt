pub mod Dots
pub mod Sure
