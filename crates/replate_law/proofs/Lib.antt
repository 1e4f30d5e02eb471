pub mod Parts
pub mod Printed
pub mod Remade
pub mod Sites
pub mod Unmade
mod SmallJobs
