-- Document 01, "Dependency graph and charge": the graph, and the channels that can reach themselves (7).
pub mod Graph
pub mod FirstCycle
pub mod Masks
pub mod Acyclic
