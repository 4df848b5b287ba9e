-- Laws of the answers of check.
pub mod CheckAnswers
