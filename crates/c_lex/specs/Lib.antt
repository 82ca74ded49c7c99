pub mod Blanks
pub mod CText
pub mod Cursor
pub mod Known
pub mod Numbers
pub mod Pieces
pub mod PlainTokens
pub mod Steps
