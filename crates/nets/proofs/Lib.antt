-- The theorems about nets, over any rules and any number of keys.

-- what is proved
pub mod Demands
pub mod Example
-- that the test of acceptance says what it should
pub mod AcceptedTest
-- why: events, where contents come from, undone sets, the two steps, loops, rollback, reached
pub mod Events
pub mod Origins
pub mod Undone
pub mod Backward
pub mod Onward
pub mod Loops
pub mod Rollback
pub mod Reached
