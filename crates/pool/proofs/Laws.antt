-- Laws of updates, places and good states.
pub mod Places
pub mod Good
pub mod Equal
pub mod Laid
pub mod Values
pub mod Assigned
pub mod Lengths
