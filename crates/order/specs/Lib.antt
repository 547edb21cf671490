-- Finite graphs over keys below a number n: what depends on what, in which orders it may be taken away, and that the order is free.
pub mod KeySets
pub mod Distinct
pub mod Words
pub mod Graphs
pub mod Dependents
pub mod Peeling
pub mod Taking
pub mod Undoing
pub mod Replay
