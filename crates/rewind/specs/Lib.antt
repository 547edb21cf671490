-- The program. To read: the text of an answer (`Lines`), and a run of requests (`Run`). `Moved` are lemmas on a buffer.
pub mod Lines
pub mod Run
pub mod Moved
