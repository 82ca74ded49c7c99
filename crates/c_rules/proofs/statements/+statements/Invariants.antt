use Rattle.std.proofs.Common.{◌≡◌, drop}
use Rattle.c_rules.specs.First.{first_of}
use Rattle.c_rules.specs.Written.{written_block, written_branches}
use Rattle.c_rules.specs.StatementRules.{block_faults, branches_faults, after_block, after_branches}
use Rattle.c_rules.proofs.statements.+statements.Given as goal

-- what is left of the statements
abbrev pub invariant-seeing_block-loop-statement : goal.invariant-seeing_block-loop-statement
invariant-seeing_block-loop-statement l =
    (first_of l.initial.first.fault (block_faults l.names l.gives (written_block l.block) l.initial.scope)
    ≡ first_of l.first.fault (block_faults l.names l.gives (written_block (drop l.statement-index l.block)) l.scope))
    × (after_block (written_block l.block) l.initial.scope ≡ after_block (written_block (drop l.statement-index l.block)) l.scope)

-- what is left of the branches
abbrev pub invariant-seeing_branches-loop-branch : goal.invariant-seeing_branches-loop-branch
invariant-seeing_branches-loop-branch l =
    (first_of l.initial.first.fault (branches_faults l.names l.gives (written_branches l.branches) l.initial.scope)
    ≡ first_of l.first.fault (branches_faults l.names l.gives (written_branches (drop l.branch-index l.branches)) l.scope))
    × (after_branches (written_branches l.branches) l.initial.scope
    ≡ after_branches (written_branches (drop l.branch-index l.branches)) l.scope)
