use Rattle.std.proofs.Common.{◌≡◌, ◌+◌, ◌<◌, ◌^◌, ◌++◌, drop}
use Rattle.std.specs.Prelude.{map}
use Rattle.step_ir.specs.Points.{item_of}
use Rattle.lower_law.specs.Exact.{exchanged}
use Rattle.lower_pieces.specs.Joined.{items_of}
use Rattle.lower_pieces.specs.Steps.{reads_in, entry_joined}
use Rattle.lower_pieces.proofs.steps.entry.Given as goal

-- what is left of the items
abbrev pub invariant-loop-item : goal.invariant-loop-item
invariant-loop-item l =
    (l.at + reads_in (items_of (drop l.item-index l.items)) < 2 ^ 16)
    × (entry_joined (exchanged l.first) l.initial.at (items_of l.items) ≡ map item_of l.nexts ++ entry_joined (exchanged l.first) l.at (items_of (drop l.item-index l.items)))
