pub mod Texts
pub mod Places
pub mod Lists
pub mod Sound
pub mod SoundPrinting
