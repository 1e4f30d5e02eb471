pub mod Stretches
pub mod Paints
pub mod Layers
pub mod Only
pub mod Pages
pub mod Blocks
pub mod Slices
pub mod Again
