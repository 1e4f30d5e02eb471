pub mod Bounds
pub mod Entries
pub mod Growing
pub mod ImageFields
pub mod Pieces
