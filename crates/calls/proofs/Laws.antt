-- Laws of the calls.
pub mod Opening
pub mod Checks
pub mod Sections
pub mod Numbered
pub mod DeckFaults
pub mod Inputs
pub mod Settling
pub mod Requests
pub mod Kinds
