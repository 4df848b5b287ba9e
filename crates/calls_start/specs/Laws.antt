-- Laws of the answers of start.
pub mod StartAnswers
