pub mod Tokens
pub mod Products
pub mod Stops
pub mod Taken
