pub mod Curve
pub mod Limit
