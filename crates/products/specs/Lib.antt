-- What a rule makes: the one definition that forward steps, acceptance and backward steps share, and each rule worked out by hand.
pub mod Body
pub mod Products
pub mod Acting
pub mod Fields
pub mod Examples
