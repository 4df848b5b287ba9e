-- What is left of a settle behind the tests.
pub mod Settled
pub mod Laws
