mod Serving
mod Kept
mod Rounds
pub mod Keys
pub mod Running
pub mod JobRows
