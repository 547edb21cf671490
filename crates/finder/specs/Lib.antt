-- The finder and the helpers: what they give (`Finder`, `Helpers`), and what that promises, in the words of the theory (`Laws`). The least number at
-- which a test holds is in `Least`; that the checks and the search which the code makes on slots are the finder's, in `Searched`.
pub mod Least
pub mod Finder
pub mod Helpers
pub mod Searched
pub mod Laws
