-- What is left of an input behind the tests.
pub mod Entered
pub mod Laws
