-- Laws of outcomes.
pub mod Outcomes
pub mod HandedOn
