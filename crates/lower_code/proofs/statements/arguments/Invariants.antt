use Rattle.std.proofs.Common.{◌≡◌, ◌^◌, ◌++◌, drop}
use Rattle.std.specs.Prelude.{map}
use Rattle.typed_unit.specs.Views.{expr_of}
use Rattle.lower_law.specs.Translated.{expr}
use Rattle.lower_code.specs.Chains.{ArgumentsBelow}
use Rattle.lower_pieces.specs.Trees.{tree_of}
use Rattle.lower_code.proofs.statements.arguments.Given as goal

-- what is left of the arguments
abbrev pub invariant-loop-e : goal.invariant-loop-e
invariant-loop-e l =
    ArgumentsBelow (2 ^ 16) (map (expr l.globals) (map expr_of (drop l.e-index l.es)))
    × (map (expr l.globals) (map expr_of l.es) ≡ map tree_of l.trees.items ++ map (expr l.globals) (map expr_of (drop l.e-index l.es)))
