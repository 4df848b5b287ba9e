-- Bytes written into a buffer, encodings that stand in a deck, and what becomes of them.
pub mod Written
pub mod Stands
pub mod Pieces
pub mod Decks
pub mod Laws
