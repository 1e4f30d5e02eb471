pub mod Number
pub mod Command
pub mod Tasks
pub mod End
pub mod Ending
pub mod Answer
