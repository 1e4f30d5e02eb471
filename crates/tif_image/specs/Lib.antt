pub mod Fields
pub mod Usage
pub mod Image
pub mod Bilevel
pub mod Found
pub mod Tested
