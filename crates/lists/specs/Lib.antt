-- Helpers on lists and numbers that several layers use.
pub mod Lists
pub mod Bits
pub mod Iterating
pub mod Laws
