mod SoundNames
pub mod SoundPages
pub mod SoundZoning
pub mod Mentions
pub mod SoundFiles
pub mod SoundPlan
pub mod Json
pub mod Later
pub mod Law
