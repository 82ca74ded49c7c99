pub mod Firsts
pub mod Least
mod FileNames
mod ScopeLists
mod ExpressionParts
mod StatementParts
mod UnitParts
mod NameParts
