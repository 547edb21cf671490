-- What the checks of a rollback and a roll say, from what the code looked up.
pub mod Checked
