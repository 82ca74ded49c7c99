pub mod PlainAttributes
pub mod Listed
pub mod PlainCode
pub mod Levels
