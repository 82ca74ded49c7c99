pub mod Depicting
pub mod Deciding
pub mod Looking
