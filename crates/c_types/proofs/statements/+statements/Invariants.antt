use Rattle.std.proofs.Common.{◌≡◌, ◌++◌, drop, map}
use Rattle.c_rules.specs.Written.{written_block, written_branches}
use Rattle.c_rules.specs.StatementRules.{after_block, after_branches}
use Rattle.typed_unit.specs.Views.{statement_of, branch_of}
use Rattle.typed_unit.specs.TypedStatements.{typed_statements, typed_branches}
use Rattle.c_types.proofs.statements.+statements.Given as goal

-- what the statements so far do, and those that are left
abbrev pub invariant-block_of-loop-statement : goal.invariant-block_of-loop-statement
invariant-block_of-loop-statement l =
    (map statement_of l.block ++ typed_statements l.names l.gives (written_block (drop l.statement-index l.statements)) l.scope
    ≡ typed_statements l.names l.gives (written_block l.statements) l.initial.scope)
    × (after_block (written_block l.statements) l.initial.scope ≡ after_block (written_block (drop l.statement-index l.statements)) l.scope)

-- the branches so far, and those that are left
abbrev pub invariant-branches_of-loop-branch : goal.invariant-branches_of-loop-branch
invariant-branches_of-loop-branch l =
    (map branch_of l.typed ++ typed_branches l.names l.gives (written_branches (drop l.branch-index l.branches)) l.scope
    ≡ typed_branches l.names l.gives (written_branches l.branches) l.initial.scope)
    × (after_branches (written_branches l.branches) l.initial.scope
    ≡ after_branches (written_branches (drop l.branch-index l.branches)) l.scope)
