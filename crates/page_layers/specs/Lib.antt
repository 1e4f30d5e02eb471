pub mod Inks
pub mod Layer
pub mod Page
pub mod Reader
pub mod Rows
