-- The laws of the definitions of `calls`, and their cases.
pub mod Laws
