-- Laws of the index.
pub mod Ways
pub mod Front
pub mod Indexed
pub mod Entering
