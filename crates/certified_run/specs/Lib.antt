pub mod Names
pub mod Certified
