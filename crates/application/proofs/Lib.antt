pub mod Greatest
pub mod RunLevels
