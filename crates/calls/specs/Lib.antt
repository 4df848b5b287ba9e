-- Document 01, "Calls" and "When a call declines": the calls but convert.
pub mod Calls
pub mod Answers
pub mod Requests
pub mod Line
