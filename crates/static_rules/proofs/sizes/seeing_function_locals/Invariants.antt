use Rattle.std.proofs.Common.{◌≡◌, take, map}
use Rattle.std.specs.List.{flat_map}
use Rattle.typed_unit.specs.Views.{function_of}
use Rattle.c_rules.specs.First.{first_of}
use Rattle.static_rules.specs.Rules.{function_local_faults}
use Rattle.static_rules.proofs.sizes.seeing_function_locals.Given as goal

-- the first of the faults so far
abbrev pub invariant-loop-function : goal.invariant-loop-function
invariant-loop-function l = l.first.fault ≡ first_of l.initial.first.fault (flat_map function_local_faults (map function_of (take l.function-index l.functions)))
