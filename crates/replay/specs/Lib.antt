pub mod Replaying
pub mod ScheduleText
pub mod Sample
