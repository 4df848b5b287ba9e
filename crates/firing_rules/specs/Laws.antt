-- Laws of the firing in code.
pub mod Sent
pub mod Turns
pub mod Halves
pub mod Reacting
