-- An event's tests as the code makes them (`Looked`), and that they are the theory's (`Agreed`).
pub mod Looked
mod Alike
pub mod Agreed
