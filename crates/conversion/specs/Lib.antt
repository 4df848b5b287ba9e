-- Document 02, Req 03: the conversion of old decks.
pub mod Converted
pub mod Conversion
pub mod Fits
