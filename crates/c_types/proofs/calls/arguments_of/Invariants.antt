use Rattle.std.proofs.Common.{◌≡◌, ◌++◌, drop, map}
use Rattle.c_rules.specs.Files.{meaning}
use Rattle.typed_unit.specs.Views.{expr_of}
use Rattle.typed_unit.specs.TypedStatements.{arguments_from}
use Rattle.c_types.proofs.calls.arguments_of.Given as goal

-- the arguments so far, and those that are left
abbrev pub invariant-loop-i : goal.invariant-loop-i
invariant-loop-i l =
    map expr_of l.typed ++ arguments_from (meaning l.names l.scope.visible) l.parameters l.i (drop l.i l.arguments)
    ≡ arguments_from (meaning l.names l.scope.visible) l.parameters 0 l.arguments
