pub mod One
pub mod OneFile
pub mod Room
