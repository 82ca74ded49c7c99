-- What the trees of the grammar mean.
pub mod Statements
pub mod Units
pub mod Depth
pub mod Parsed
