-- The laws of the definitions of `conversion`, and their cases.
pub mod Cases
pub mod Laws
