pub mod Labels
pub mod Certifying
