mod Feeds
pub mod Halves
mod OneThread
