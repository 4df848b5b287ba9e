-- Laws of bytes written into a buffer, of encodings that stand in a deck, and of what becomes of them.
pub mod Written
pub mod Stands
pub mod Rules
pub mod Parts
pub mod Decks
