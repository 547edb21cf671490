-- What an image means. Head: what both images share. Script and Net: a value's bytes (its writing), and which values are in range.
-- Read: reading, which is proved to undo writing in Round; a reader of the house believes Head, Script and Net, and cites Round.
pub mod Head
pub mod Sizes
pub mod Script
pub mod Net
pub mod Read
pub mod Lookup
pub mod Layout
pub mod Shape
pub mod Round
pub mod InPlace
pub mod Changed
pub mod After
pub mod Formed
pub mod Reading
pub mod Examples
