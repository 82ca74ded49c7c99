pub mod Plain
pub mod Views
pub mod Conversions
pub mod TypedExpressions
pub mod TypedStatements
pub mod Typed
