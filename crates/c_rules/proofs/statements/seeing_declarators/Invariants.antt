use Rattle.std.proofs.Common.{◌≡◌, drop}
use Rattle.c_rules.specs.First.{first_of}
use Rattle.c_rules.specs.StatementRules.{declarators_faults, after_declarators}
use Rattle.c_rules.proofs.statements.seeing_declarators.Given as goal

-- what is left to be seen and declared
abbrev pub invariant-loop-d : goal.invariant-loop-d
invariant-loop-d l =
    (first_of l.initial.first.fault (declarators_faults l.names l.type_name l.constant l.declarators l.initial.scope)
    ≡ first_of l.first.fault (declarators_faults l.names l.type_name l.constant (drop l.d-index l.declarators) l.scope))
    × (after_declarators l.type_name l.constant l.declarators l.initial.scope
    ≡ after_declarators l.type_name l.constant (drop l.d-index l.declarators) l.scope)
