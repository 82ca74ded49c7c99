pub mod Sites
pub mod Chains
pub mod Found
pub mod Rules
pub mod Checked
