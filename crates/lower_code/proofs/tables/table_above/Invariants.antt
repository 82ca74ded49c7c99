use Rattle.std.proofs.Common.{◌≡◌, ◌++◌, drop}
use Rattle.std.specs.Prelude.{map}
use Rattle.lower_pieces.specs.Sized.{number_at}
use Rattle.lower_code.specs.Tables.{tree_size, tree_room}
use Rattle.lower_code.proofs.tables.table_above.Given as goal

-- what is left of the functions
abbrev pub invariant-loop-f : goal.invariant-loop-f
invariant-loop-f l =
    (map (tree_size (number_at l.below.sizes)) l.functions ≡ l.sizes ++ map (tree_size (number_at l.below.sizes)) (drop l.f-index l.functions))
    × (map (tree_room (number_at l.below.rooms)) l.functions ≡ l.rooms ++ map (tree_room (number_at l.below.rooms)) (drop l.f-index l.functions))
