pub mod Saturation
pub mod ExpressionParts
pub mod ThingParts
pub mod TallyParts
pub mod Counted
pub mod UnitParts
pub mod NameParts
pub mod CellParts
