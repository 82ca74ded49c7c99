-- What the trees of expressions mean, and what is said of readers.
pub mod Reads
pub mod Lexemes
pub mod Expressions
