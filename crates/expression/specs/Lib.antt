-- Document 01, "Expressions": what they are, what they come to, and how bytes are read as one; document 02, Req 02: their first fault.
pub mod Syntax
pub mod Values
pub mod Reading
pub mod Encoding
pub mod Faults
pub mod ExactByte
pub mod Answers
pub mod Searching
pub mod Bytes
