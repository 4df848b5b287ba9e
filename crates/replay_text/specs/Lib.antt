-- What is promised of the lines that are read and printed, and of what they keep.
pub mod Answers
pub mod Kept
pub mod Laws
pub mod Lines
