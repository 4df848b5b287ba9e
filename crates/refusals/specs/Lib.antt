-- Refusals: their numbers, and what a reader or a call comes to.
pub mod Numbers
pub mod Outcome
pub mod Declined
pub mod Laws
