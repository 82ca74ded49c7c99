pub mod Sizes
pub mod Tallies
pub mod Cells
