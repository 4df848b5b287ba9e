-- Laws of what the calls for C return.
pub mod Replies
