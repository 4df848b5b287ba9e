-- The converter in code.
pub mod Passed
pub mod Laws
