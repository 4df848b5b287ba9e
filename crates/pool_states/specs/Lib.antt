-- The code's answers about a state, and their laws.
pub mod Answer
pub mod Fits
pub mod Laws
