use Rattle.std.proofs.Common.{◌≡◌, take}
use Rattle.std.specs.List.{flat_map}
use Rattle.c_rules.specs.First.{first_of}
use Rattle.c_rules.specs.UnitRules.{declaration_faults}
use Rattle.c_rules.proofs.units.seeing_variables.Given as goal

-- the faults of the variables so far are seen
abbrev pub invariant-loop-d : goal.invariant-loop-d
invariant-loop-d l =
    l.first.fault ≡ first_of l.initial.first.fault (flat_map declaration_faults (take l.d-index l.declarations))
