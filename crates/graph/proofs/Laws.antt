-- Laws of the dependency graph: what is computed is what the edges lead to.
pub mod Rounds
pub mod Reach
pub mod Edges
pub mod Cycles
pub mod Targets
pub mod Agreement
pub mod FirstCycle
pub mod Shape
pub mod Same
