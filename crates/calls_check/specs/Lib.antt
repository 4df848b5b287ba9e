-- What check answers.
pub mod Laws
