-- What the functions' proofs share, apart from the places of the code.
pub mod Numbers
pub mod Turns
pub mod Deciding
pub mod Collecting
pub mod Different
pub mod Adding
