pub mod Bodies
pub mod Chains
pub mod Plans
pub mod Tables
