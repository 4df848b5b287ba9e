-- What start answers.
pub mod Laws
