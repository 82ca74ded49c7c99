pub mod Inputless
pub mod OnlyRun
pub mod Runs
