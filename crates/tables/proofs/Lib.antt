-- That the steps are exactly the rules of 004, Tables VII and X: forward (`Forwards`), backward (`Backwards`), and the loop lemma (`Loop`).
pub mod Forwards
pub mod Backwards
pub mod Loop
