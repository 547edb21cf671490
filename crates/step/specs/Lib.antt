-- Steps in code: what a step answers and changes (`Change`, `Forward`, `Backward`) on images that are good (`Lent`), and what that promises, in the words of the theory
-- (`Laws`). How the code finds out is in `Tests` and `Allowed`, and that these are the checks of `requests` in `Tested`; what stands in the way of an undoing is in `Way`. That
-- the changes may be written into the net's bytes is in `InPlace`, `Next` and proofs/Back; that, written (`Written`), they are the theory's steps, in proofs/.
pub mod Lent
pub mod Change
pub mod Forward
pub mod Backward
pub mod Laws
pub mod Tests
pub mod Tested
pub mod Allowed
pub mod Way
pub mod Written
pub mod InPlace
pub mod Stepped
pub mod Next
