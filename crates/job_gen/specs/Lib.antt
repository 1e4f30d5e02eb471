pub mod Images
pub mod Job
pub mod Numbers
pub mod Passes
pub mod Plan
pub mod Text
