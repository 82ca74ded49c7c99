-- What the format and its readers rest on.
pub mod Words
pub mod Certificate
pub mod Texts
pub mod Readers
pub mod Kept
pub mod LabelParts
pub mod TableParts
pub mod Whole
pub mod Endings
pub mod Parted
mod Rows
pub mod Plain
pub mod Valid
pub mod Laws
pub mod Outcomes
