pub mod Fields
pub mod Form
pub mod Strips
pub mod Made
pub mod Image
