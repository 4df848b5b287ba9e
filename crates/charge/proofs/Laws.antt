-- Laws of the charge: the document's equations, and the bound on it (8).
pub mod Active
pub mod Equations
pub mod Largest
pub mod Bound
pub mod Shape
pub mod Tables
