pub mod Verifying
pub mod Making
pub mod Order
pub mod Verify
pub mod Wrong
