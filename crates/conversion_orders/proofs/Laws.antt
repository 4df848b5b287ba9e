-- Laws of converted decks.
pub mod Same
pub mod Passes
pub mod Runs
pub mod Call
pub mod Numbers
pub mod Answers
