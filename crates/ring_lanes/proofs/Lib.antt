pub mod Decks
pub mod Fills
pub mod Keeps
pub mod Looks
pub mod Overs
pub mod Rooms
