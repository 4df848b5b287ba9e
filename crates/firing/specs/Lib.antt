-- Document 01, "Calls": the firing, and one commit.
pub mod Firing
pub mod Evaluated
