-- Laws of the firing and the commits.
pub mod Firing
pub mod Enqueue
pub mod Charges
pub mod Commits
pub mod Among
pub mod Evaluated
pub mod Pairs
pub mod Setting
pub mod Lined
pub mod Written
