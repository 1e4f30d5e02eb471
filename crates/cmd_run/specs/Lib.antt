pub mod Report
pub mod Edition
pub mod Keys
pub mod Drill
