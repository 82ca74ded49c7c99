pub mod Deciding
pub mod Permitted
