-- That a line is what a call tells, as text (`SameText`).
pub mod SameText
