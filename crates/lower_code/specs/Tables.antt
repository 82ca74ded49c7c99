-- How many points and cells a call of each function has, by how deep calls nest.
use Rattle.std.specs.Prelude.{ℕ, zero, suc, ◌+◌, List, [], ◌∷◌, ◌++◌, map}
use Rattle.lower_law.specs.Counts.{saturated}
use Rattle.lower_law.specs.Lowered.{closing_size}
use Rattle.lower_law.specs.Statements.{CellBlock, block, room_all}
use Rattle.lower_pieces.specs.declared.tree.FunctionTree.{FunctionTree}
use Rattle.lower_pieces.specs.Sized.{number_at, sized_all}
use Rattle.lower_pieces.specs.Trees.{statement_of}
use Rattle.lower_code.specs.declared.tables.Table.{Table}

-- the statements of a function
abbrev pub body_of : FunctionTree → CellBlock
body_of f = block (map statement_of f.body.items)

-- the points of a function where a call of each has so many, and its cells
abbrev pub tree_size : (ℕ → ℕ) → FunctionTree → ℕ
tree_size sizes f = saturated (sized_all sizes (body_of f) + closing_size f.gives)

abbrev pub tree_room : (ℕ → ℕ) → FunctionTree → ℕ
tree_room rooms f = saturated (f.locals + room_all rooms (body_of f))

-- the table for calls that nest one deeper
abbrev pub table_above : List FunctionTree → Table → Table
table_above functions t =
    record { sizes = map (tree_size (number_at t.sizes)) functions; rooms = map (tree_room (number_at t.rooms)) functions }

-- the table for calls that nest less than so deep
abbrev pub table_to : List FunctionTree → ℕ → Table
table_to functions zero = record { sizes = []; rooms = [] }
table_to functions (suc d) = table_above functions (table_to functions d)

-- the first tables
abbrev pub tables_to : List FunctionTree → ℕ → List Table
tables_to functions zero = []
tables_to functions (suc d) = tables_to functions d ++ table_to functions d ∷ []

-- the points and cells of calls that nest less than so deep
abbrev pub sizes_at : List FunctionTree → ℕ → ℕ → ℕ
sizes_at functions d = number_at (table_to functions d).sizes

abbrev pub rooms_at : List FunctionTree → ℕ → ℕ → ℕ
rooms_at functions d = number_at (table_to functions d).rooms
