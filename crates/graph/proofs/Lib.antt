-- What the loops keep, apart from the places of the code.
pub mod Adding
pub mod Drawing
pub mod Spreading
pub mod Searching
pub mod Cases
pub mod Laws
pub mod TableCases
