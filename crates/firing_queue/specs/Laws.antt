-- Laws of new updates that are offered one by one.
pub mod Queue
pub mod Kept
pub mod Adding
