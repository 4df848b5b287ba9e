-- What is left of a commit behind the tests.
pub mod Committed
pub mod Laws
