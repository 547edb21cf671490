-- Nets of keyed records with the memory of past steps: forward and backward steps, dependence, undoing of sets, and which nets are accepted,
-- over any rules and any number of keys. The theorems about them are in proofs/: read `Demands` there.

-- what it means
pub mod Rules
pub mod Net
pub mod Rule
pub mod Forward
pub mod Undo
pub mod Accepted
-- what the theorems speak of besides
pub mod Origins
pub mod Loops
pub mod Rollback
pub mod Reached
-- acceptance as a test
pub mod Accepting
-- what is said of one record
pub mod Records
