-- Document 01, "The deck": its limits, what it is after reading, and how bytes are read as one, with the faults 1 to 5; document 02,
-- Req 02: 18 and 19; Req 03: two forms, and 20.
pub mod Limits
pub mod Deck
pub mod Reader
pub mod Layout
pub mod Sections
pub mod Encoding
pub mod Stretch
pub mod Marks
pub mod Shape
pub mod Tables
pub mod Facts
