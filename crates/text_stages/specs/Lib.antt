pub mod Stages
pub mod Limits
pub mod Prepared
