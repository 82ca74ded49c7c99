pub use Rattle.typed_unit.specs.Plain
pub use Rattle.typed_unit.specs.Views
pub use Rattle.typed_unit.specs.Conversions
pub use Rattle.typed_unit.specs.TypedExpressions
pub use Rattle.typed_unit.specs.TypedStatements
pub use Rattle.typed_unit.specs.Typed
pub mod Answers
