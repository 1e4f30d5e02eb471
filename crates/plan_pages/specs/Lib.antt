pub mod Pages
pub mod Plate
pub mod Span
