use Rattle.std.proofs.Common.{◌≡◌, drop}
use Rattle.c_rules.specs.First.{first_of}
use Rattle.c_rules.specs.UnitRules.{parameters_faults, after_parameters}
use Rattle.c_rules.proofs.units.seeing_parameters.Given as goal

-- what is left to be seen and declared
abbrev pub invariant-loop-p : goal.invariant-loop-p
invariant-loop-p l =
    (first_of l.initial.first.fault (parameters_faults l.parameters l.initial.scope)
    ≡ first_of l.first.fault (parameters_faults (drop l.p-index l.parameters) l.scope))
    × (after_parameters l.parameters l.initial.scope ≡ after_parameters (drop l.p-index l.parameters) l.scope)
