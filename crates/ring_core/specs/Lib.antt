pub mod Schedule
pub mod Events
pub mod Sound
pub mod Laws
pub mod Shown
pub mod Plain
