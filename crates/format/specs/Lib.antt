-- Formats, and when they are exact.
pub mod Format
pub mod Faults
pub mod Exact
