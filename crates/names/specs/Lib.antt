pub mod Names
pub mod Localities
pub mod KeySets
pub mod Reads
