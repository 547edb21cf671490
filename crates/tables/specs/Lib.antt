-- The rules of 004, Tables VII and X, as relations of nets; that the steps are exactly these is in proofs/.
--
-- `Table` and `Reversals` are the two halves of the table, one constructor for each rule, written in the `Terms`. The others are on the way to the
-- theorems.
pub mod Terms
pub mod Table
pub mod Reversals
pub mod Memories
pub mod Requests
pub mod Puts
pub mod Frees
pub mod Kinds
pub mod Undoables
