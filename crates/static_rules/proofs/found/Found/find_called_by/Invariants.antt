use Rattle.std.proofs.Common.{take}
use Rattle.std.specs.List.{flat_map}
use Rattle.static_rules.specs.Chains.{calls, body}
use Rattle.static_rules.specs.Found.{Finds}
use Rattle.static_rules.proofs.found.Found.find_called_by.Given as goal

-- the functions so far
abbrev pub invariant-loop-function : goal.invariant-loop-function
invariant-loop-function l =
    Finds l.initial.self.flags.items l.initial.self.fresh.items l.self.flags.items l.self.fresh.items (calls (flat_map (body l.bodies) (take l.function-index l.functions)))
