-- The laws of the definitions of `passing`, and their cases.
pub mod Cases
pub mod Laws
