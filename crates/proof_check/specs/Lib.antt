pub mod Answers
pub mod Checkers
pub mod Lefts
pub mod Certs
pub mod Checks
