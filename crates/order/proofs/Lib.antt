-- What is proved of dependents, of peeling, and of undoing in any order.
pub mod Dependents
pub mod Peeling
pub mod Undoing
