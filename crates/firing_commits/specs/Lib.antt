-- The commits in code: what their functions take and leave.
pub mod Commits
pub mod Laws
