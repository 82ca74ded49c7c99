pub mod Drawn
pub mod Generated
pub mod Puts
