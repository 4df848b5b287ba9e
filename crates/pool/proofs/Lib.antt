-- What the loops keep, apart from the places of the code.
pub mod Writing
pub mod Scanning
pub mod Cases
pub mod Laws
