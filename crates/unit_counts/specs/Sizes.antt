-- What is counted for things, without the bodies of the functions that they call.
use Rattle.std.specs.Prelude.{◌+◌, List, [], ◌∷◌, ◌++◌, map}
use Rattle.typed_unit.specs.declared.typed.TypedBranch.{TypedBranch}
use Rattle.typed_unit.specs.declared.typed.TypedStatement.{TypedStatement}
use Rattle.typed_unit.specs.Views.{PlainBranch, statement_of, branch_of, block_of}
use Rattle.lower_law.specs.Counts.{Thing, saturated, reads_all, weight_all, things, things_in, asking}
use Rattle.unit_counts.specs.declared.things.ThingSize.{ThingSize}

-- the read sites and the weight of a thing, as far as numbers go
abbrev pub size_of : Thing → ThingSize
size_of x = record { reads = saturated (reads_all x.asks); weight = saturated (weight_all x.asks + x.target); calls = x.calls }

abbrev pub sizes_of : List Thing → List ThingSize
sizes_of xs = map size_of xs

-- the things of branches one after another
abbrev pub branch_things : List PlainBranch → List Thing
branch_things [] = []
branch_things (b ∷ bs) = asking (b.condition ∷ []) ∷ (things_in b.block ++ branch_things bs)

abbrev pub statement_sizes : TypedStatement → List ThingSize
statement_sizes s = sizes_of (things (statement_of s))

abbrev pub block_sizes : List TypedStatement → List ThingSize
block_sizes ss = sizes_of (things_in (block_of ss))

abbrev pub branches_sizes : List TypedBranch → List ThingSize
branches_sizes bs = sizes_of (branch_things (map branch_of bs))
