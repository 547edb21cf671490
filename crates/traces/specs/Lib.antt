-- What the events of a net made and used: how the code finds it (`Traces`), arrays that a loop fills (`Fill`), the laws of its turns (`Marks`), and
-- that it is the theory's (`Traced`).
pub mod Traces
pub mod Fill
pub mod Marks
pub mod Traced
