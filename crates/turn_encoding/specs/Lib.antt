pub mod Grids
pub mod Encodings
