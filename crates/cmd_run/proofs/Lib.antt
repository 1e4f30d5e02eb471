pub mod Owed
pub mod Delivering
pub mod Keying
pub mod DrillVerdict
pub mod DrillDots
pub mod Drilled
