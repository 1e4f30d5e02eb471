pub mod Turns
pub mod Feeding
pub mod Again
