-- The rules of a script, as the theory of nets asks for them, and that theory of every script.
pub mod Nodes
pub mod Roots
pub mod Laws
pub mod Forms
pub mod Instance
pub mod Acts
pub mod Same
pub mod View
pub mod Image
pub mod Theorems
