-- Laws of an input.
pub mod InputTests
pub mod Entering
pub mod InputAnswers
