-- Laws of a commit.
pub mod Applying
pub mod Looking
pub mod Committing
