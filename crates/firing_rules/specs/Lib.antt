-- The firing in code: what its functions take and leave.
pub mod Reactions
pub mod Laws
