-- A hash index of the pending updates.
pub mod Hash
pub mod Index
pub mod Laws
