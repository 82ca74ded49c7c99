pub mod Building
pub mod Description
pub mod Padded
pub mod Sight
pub mod Symbol
pub mod Unrolled
