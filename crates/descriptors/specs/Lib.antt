-- What is promised of reading, and a law of it.
pub mod Counts
pub mod Input
pub mod Laws
