-- What a request is answered: document 01, "Requests and what comes back", over taken-apart nets; and what a call tells, as text (`Text`).
pub mod Checks
pub mod Answers
pub mod Requests
pub mod Laws
pub mod Text
