-- The laws of exact formats.
pub mod Exact
