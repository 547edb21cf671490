-- Which nets are accepted, in code: document 01's paragraph, clause by clause (`Verdict`), and what each verdict says (`Laws`); that a net is accepted
-- exactly when no clause fails is in proofs/Laws. How the code finds out is in `Whole`, and that its answer is the verdict in proofs/Told; that a net in
-- range has the form that acceptance asks for, in `Forms`.
pub mod Verdict
pub mod Whole
pub mod Forms
pub mod Laws
