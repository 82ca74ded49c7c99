pub mod Levels
pub mod InOrder
pub mod RunLevels
