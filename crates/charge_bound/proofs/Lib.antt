-- Laws that the proofs of the functions cite.
pub mod Search
pub mod LargestEntry
pub mod ByRules
