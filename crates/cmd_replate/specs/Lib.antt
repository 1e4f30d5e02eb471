pub mod Remade
pub mod Change
