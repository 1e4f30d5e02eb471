pub mod Held
pub mod Deck
pub mod Numbers
pub mod Writer
pub mod Reader
pub mod Note
