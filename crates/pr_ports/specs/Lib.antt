pub mod Shelf
pub mod Sink
pub mod Mem
pub mod Difference
pub mod Offset
