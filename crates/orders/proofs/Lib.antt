-- The laws of the definitions of `orders`, and their cases.
pub mod Cases
pub mod Laws
pub mod StaysPutCases
