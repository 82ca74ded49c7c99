mod Parts
mod StatementParts
