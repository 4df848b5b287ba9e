-- New updates offered one by one: what the functions take and leave.
pub mod Queue
pub mod Stored
pub mod Laws
