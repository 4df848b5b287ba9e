-- Document 01, "Lists of calls" and "Deck D and its cases".
pub mod Calling
pub mod Listed
pub mod Order
pub mod Calculus
pub mod StaysPut
