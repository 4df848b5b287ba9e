-- Document 01, "State and pool": updates, places of ten numbers, and good states (9, 10).
pub mod Updates
pub mod Places
pub mod States
pub mod Moves
pub mod Fine
