use Rattle.std.proofs.Common.{◌≡◌, ◌+◌, ◌*◌, ◌++◌, drop}
use Rattle.typed_unit.specs.Views.{unit_of}
use Rattle.lower_law.specs.Layout.{function_names}
use Rattle.unit_counts.specs.Cells.{names_in}
use Rattle.unit_counts.proofs.names.+calls.Given as goal

-- what is left of the things
abbrev pub invariant-push_calls-loop-thing : goal.invariant-push_calls-loop-thing
invariant-push_calls-loop-thing l =
    l.initial.names ++ names_in (function_names (unit_of l.unit) l.depth) l.things
    ≡ l.names ++ names_in (function_names (unit_of l.unit) l.depth) (drop l.thing-index l.things)

abbrev pub decreases-push_function : goal.decreases-push_function
decreases-push_function l = 3 * l.depth

abbrev pub decreases-push_called : goal.decreases-push_called
decreases-push_called l = 3 * l.depth + 1

abbrev pub decreases-push_calls : goal.decreases-push_calls
decreases-push_calls l = 3 * l.depth + 2
