-- Decimal digits, what is promised of the functions that put text, and laws of both.
pub mod Digits
pub mod Put
pub mod Laws
