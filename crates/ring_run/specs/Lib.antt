pub mod Fits
pub mod Served
pub mod Seat
pub mod Round
pub mod Again
pub mod Keyed
pub mod JobRun
