-- Document 01, "Dependency graph and charge": the charge of an update and of a rule, and the bound on it (8).
pub mod Charge
pub mod Memo
pub mod Answer
