-- Laws of the listeners that the crates above cite too.
pub mod Listening
