-- Laws that callers cite and that speak of what owning a value tells.
pub mod Owned
pub mod Chunks
