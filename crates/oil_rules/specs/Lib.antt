pub mod Kinds
pub mod Roles
pub mod Values
pub mod Names
pub mod Objects
pub mod Known
pub mod Rules
pub mod First
