use Rattle.std.proofs.Common.{◌≡◌, take}
use Rattle.std.specs.Prelude.{map}
use Rattle.typed_unit.specs.Views as typed
use Rattle.lower_law.specs.Translated.{function}
use Rattle.lower_pieces.specs.Trees.{function_of}
use Rattle.lower.proofs.trees.function_trees.Given as goal

-- the functions so far
abbrev pub invariant-loop-f : goal.invariant-loop-f
invariant-loop-f l = map function_of l.trees.items ≡ map (function l.globals) (map typed.function_of (take l.f-index l.functions))
