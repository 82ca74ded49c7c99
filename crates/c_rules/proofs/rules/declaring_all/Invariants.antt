use Rattle.std.proofs.Common.{◌≡◌, drop, fold}
use Rattle.c_rules.specs.First.{first_of}
use Rattle.c_rules.specs.Files.{with_external}
use Rattle.c_rules.specs.UnitRules.{names_faults}
use Rattle.c_rules.proofs.rules.declaring_all.Given as goal

-- what is left to be seen and declared
abbrev pub invariant-loop-external : goal.invariant-loop-external
invariant-loop-external l =
    (first_of l.initial.first.fault (names_faults l.initial.names l.externals)
    ≡ first_of l.first.fault (names_faults l.names (drop l.external-index l.externals)))
    × (fold with_external l.initial.names l.externals ≡ fold with_external l.names (drop l.external-index l.externals))
