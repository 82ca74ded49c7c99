pub mod Expressions
pub mod Nexts
pub mod Bodies
pub mod Sound
pub mod Cells
pub mod Whole
