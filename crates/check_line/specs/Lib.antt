-- What is promised of a report, and laws of the line.
pub mod Reports
pub mod Laws
pub mod Plain
