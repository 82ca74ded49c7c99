use Rattle.std.proofs.Common.{◌≡◌, ◌+◌, ◌<◌, ◌^◌, ◌++◌, [], length}
use Rattle.std.specs.Prelude.{map}
use Rattle.step_ir.specs.Points.{plain_of, plain_action, item_of}
use Rattle.lower_law.specs.Exact.{exchanged}
use Rattle.lower_pieces.specs.Joined.{items_of}
use Rattle.lower_pieces.specs.Steps.{reads_in, thing_joined}
use Rattle.lower_pieces.proofs.steps.thing.Given as goal

-- what is left of the items
abbrev pub invariant-loop-alloc : goal.invariant-loop-alloc
invariant-loop-alloc l =
    (l.at + reads_in (items_of l.left.items) < 2 ^ 16)
    × (l.action ≡ l.fn.action)
    × (map plain_of l.initial.points.items ++ thing_joined (exchanged l.first) l.place (plain_action l.fn.action) (map item_of l.fn.next) [] l.initial.at (items_of l.fn.items.items)
    ≡ map plain_of l.points.items ++ thing_joined (exchanged l.first) l.place (plain_action l.fn.action) (map item_of l.fn.next) (map item_of l.traps) l.at (items_of l.left.items))

abbrev pub decreases-loop-alloc : goal.decreases-loop-alloc
decreases-loop-alloc l = length l.left.items
