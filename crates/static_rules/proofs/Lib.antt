pub mod SiteParts
pub mod Bounds
pub mod Finding
pub mod Reaching
pub mod Shortening
pub mod FaultParts
mod Worked
