-- That the changes, once written (`Written`), are the theory's steps (`Steps`, `Undone`, `Laws`), and what calls on bytes give (`Stepped`, `Forwarded`, `Back`).
pub mod Written
pub mod Steps
pub mod Undone
pub mod Laws
pub mod Stepped
pub mod Forwarded
pub mod Back
