-- Lemmas that several proofs use.
pub mod Bits
pub mod Chunks
pub mod Naturals
pub mod Rows
