pub mod GuardedRun
pub mod Drafts
pub mod WellShaped
pub mod Executions
pub mod Laws
