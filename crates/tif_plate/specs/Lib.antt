pub mod Plate
pub mod Put
pub mod Tail
