-- The laws of the definitions of `expression`, and their cases.
pub mod Cases
pub mod Laws
