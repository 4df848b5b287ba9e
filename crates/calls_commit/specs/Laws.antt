-- Laws of a commit.
pub mod CommitAnswers
