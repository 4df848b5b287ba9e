-- The laws of the definitions of `firing`, and their cases.
pub mod Cases
pub mod Laws
