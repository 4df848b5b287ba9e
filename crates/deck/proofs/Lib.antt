-- The laws of the definitions of `deck`, and their cases.
pub mod Cases
pub mod Laws
