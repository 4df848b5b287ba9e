-- Laws of the tests of a state, by subject.
pub mod Fits
pub mod Places
pub mod PairsHeld
pub mod Charges
pub mod Judged
pub mod Shape
pub mod Indexing
pub mod Unused
