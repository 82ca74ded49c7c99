use Rattle.std.proofs.Common.{◌≡◌, drop, fold}
use Rattle.c_rules.specs.First.{first_of}
use Rattle.c_rules.specs.Files.{with_variable}
use Rattle.c_rules.specs.UnitRules.{variables_faults}
use Rattle.c_rules.proofs.rules.declaring_variables.Given as goal

-- what is left to be seen and declared
abbrev pub invariant-loop-d : goal.invariant-loop-d
invariant-loop-d l =
    (first_of l.initial.first.fault (variables_faults l.initial.names l.declarations)
    ≡ first_of l.first.fault (variables_faults l.names (drop l.d-index l.declarations)))
    × (fold with_variable l.initial.names l.declarations ≡ fold with_variable l.names (drop l.d-index l.declarations))
