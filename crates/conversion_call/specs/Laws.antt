-- Laws of the converter in code.
pub mod Answers
