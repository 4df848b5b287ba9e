-- Laws of commits of one place.
pub mod Turning
pub mod Beginnings
