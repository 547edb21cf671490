-- Rollback: what it gives (`Rollback`), how the code undoes an event with its dependents (`Turns`, `Undone`) in the lent bytes of a net (`InPlace`), and that its
-- checks are document 01's (`Checked`).
pub mod Rollback
pub mod Turns
pub mod Undone
pub mod InPlace
pub mod Checked
