pub mod Cuts
pub mod Finish
pub mod Growth
pub mod Length
pub mod Puts
pub mod Rounding
pub mod Tails
pub mod Worked
