-- That the code's answer is the verdict (`Told`), and that a net is accepted exactly when no clause fails (`Laws`).
pub mod Told
pub mod Laws
