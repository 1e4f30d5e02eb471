pub mod Rack
pub mod Mem
pub mod Told
pub mod Delivery
