pub mod Deck
pub mod Numbered
