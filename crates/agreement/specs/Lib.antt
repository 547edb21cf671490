-- An event and its rule: how the code tests that they agree (`Agreement`); that this is the theory's test is in proofs/Agreed.
pub mod Agreement
pub mod Looked
pub mod Agreed
