-- The calls on bytes are the published rules.
pub mod Published
