use Rattle.std.proofs.Common.{◌≡◌, ◌++◌, drop, map}
use Rattle.c_rules.specs.StatementRules.{after_declarators}
use Rattle.typed_unit.specs.Views.{statement_of}
use Rattle.typed_unit.specs.TypedStatements.{declarators_of}
use Rattle.c_types.proofs.statements.put_declarators.Given as goal

-- what the locals so far are set to, and those that are left
abbrev pub invariant-loop-d : goal.invariant-loop-d
invariant-loop-d l =
    (map statement_of l.block ++ declarators_of l.names l.type_name l.constant (drop l.d-index l.declarators) l.scope
    ≡ map statement_of l.initial.block ++ declarators_of l.names l.type_name l.constant l.declarators l.initial.scope)
    × (after_declarators l.type_name l.constant l.declarators l.initial.scope
    ≡ after_declarators l.type_name l.constant (drop l.d-index l.declarators) l.scope)
