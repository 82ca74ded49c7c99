pub mod Rising
pub mod SinkSoFar
pub mod Files
pub mod DeskSoFar
pub mod Keeping
pub mod InList
pub mod Worked
