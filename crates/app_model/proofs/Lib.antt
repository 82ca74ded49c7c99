pub mod Steps
pub mod Accepted
pub mod Bounded
pub mod Distinct
pub mod Orderly
pub mod Whole
