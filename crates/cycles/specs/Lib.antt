-- Whether there is a cycle, as the code finds out; and the keys of a word from the last to the first.
pub mod Highest
pub mod Cycles
pub mod Laws
pub mod Following
