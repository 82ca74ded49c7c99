pub mod Right
pub mod Serving
pub mod Sizes
pub mod Variables
