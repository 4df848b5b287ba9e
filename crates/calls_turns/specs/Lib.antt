-- Commits of one place, again and again, on what was tested.
pub mod Turns
pub mod Laws
