use Rattle.std.proofs.Common.{◌≡◌, take}
use Rattle.std.specs.Prelude.{map}
use Rattle.typed_unit.specs.Views as typed
use Rattle.lower.proofs.Gathering.{name_of}
use Rattle.lower.proofs.trees.function_names.Given as goal

-- the names so far
abbrev pub invariant-loop-f : goal.invariant-loop-f
invariant-loop-f l = l.names ≡ map name_of (map typed.function_of (take l.f-index l.functions))
