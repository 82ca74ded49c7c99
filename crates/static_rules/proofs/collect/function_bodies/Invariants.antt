use Rattle.std.proofs.Common.{◌≡◌, map, take}
use Rattle.typed_unit.specs.Views.{function_of}
use Rattle.static_rules.specs.Sites.{function_bodies}
use Rattle.static_rules.proofs.collect.function_bodies.Given as goal

-- the functions so far
abbrev pub invariant-loop-function : goal.invariant-loop-function
invariant-loop-function l = l.bodies ≡ function_bodies (map function_of (take l.function-index l.functions))
