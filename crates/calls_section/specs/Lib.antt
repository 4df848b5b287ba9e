-- What section answers.
pub mod Laws
