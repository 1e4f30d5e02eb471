pub mod Owed
pub mod Told
pub mod Clauses
pub mod Numbers
