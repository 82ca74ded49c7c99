pub mod Depicts
pub mod Verdicts
