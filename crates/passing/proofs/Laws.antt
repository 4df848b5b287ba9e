-- Laws of the tests of a deck.
pub mod Passing
pub mod Passes
pub mod Refusals
pub mod CheckSteps
pub mod Tabled
pub mod Stands
pub mod Limits
pub mod Opening
pub mod Places
pub mod Judged
pub mod Tables
pub mod Longest
