pub mod Appended
pub mod Cells
pub mod Counted
pub mod Expansion
pub mod Joining
pub mod Summed
pub mod Walked
pub mod Told
