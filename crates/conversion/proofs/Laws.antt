-- Laws of the conversion.
pub mod Renumbering
pub mod Formed
pub mod Tests
