pub mod Bounded
pub mod Checked
pub mod Told
pub mod Replies
pub mod Verdicts
pub mod Named
