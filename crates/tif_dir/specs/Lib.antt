pub mod Directory
pub mod Names
pub mod Table
