-- What the loops keep, apart from the places of the code.
pub mod Raising
pub mod Hashing
pub mod Searching
