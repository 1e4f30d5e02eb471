pub mod Law
pub mod Part
