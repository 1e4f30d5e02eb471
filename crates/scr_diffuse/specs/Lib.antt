pub mod Block
pub mod Diffuser
pub mod Diffusion
pub mod Passes
pub mod Steps
pub mod Weave
