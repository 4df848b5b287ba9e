-- Laws of the tests of deck, pool and state.
pub mod Tested
pub mod StoredMemory
pub mod Entering
