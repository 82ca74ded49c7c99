pub mod Shapes
pub mod Cells
pub mod Turns
pub mod Runs
pub mod Bottoms
pub mod CellLimits
pub mod Rows
