-- Laws of the memo that the crates above cite too.
pub mod Entries
