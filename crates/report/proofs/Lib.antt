pub mod Printing
pub mod Joining
