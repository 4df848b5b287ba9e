-- Document 01, "When a call declines", and document 02, Req 02 and Req 03: the tests of a deck, 1 to 8 and 18 to 20.
pub mod Check
pub mod Stands
pub mod Tabled
pub mod Judged
