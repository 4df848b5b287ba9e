-- A law that the proofs cite.
pub mod Made
