pub mod Spelling
pub mod Plain
