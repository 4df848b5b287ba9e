-- What is promised of what the program writes.
pub mod Written
