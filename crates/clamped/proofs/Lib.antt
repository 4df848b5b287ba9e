-- Laws that the proofs of the operations cite.
pub mod Saturating
pub mod Cases
