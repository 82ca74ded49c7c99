pub use Rattle.application.specs.Levels
pub use Rattle.application.specs.InOrder
pub use Rattle.application.specs.RunLevels
pub mod Application
pub mod Bounds
pub mod Answers
