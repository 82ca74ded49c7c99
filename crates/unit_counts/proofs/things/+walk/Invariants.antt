use Rattle.std.proofs.Common.{◌≡◌, ◌++◌, drop}
use Rattle.unit_counts.specs.Sizes.{block_sizes, branches_sizes}
use Rattle.unit_counts.proofs.things.+walk.Given as goal

-- what is left of the statements
abbrev pub invariant-push_block-loop-statement : goal.invariant-push_block-loop-statement
invariant-push_block-loop-statement l =
    l.initial.sizes ++ block_sizes l.block ≡ l.sizes ++ block_sizes (drop l.statement-index l.block)

-- what is left of the branches
abbrev pub invariant-push_branches-loop-branch : goal.invariant-push_branches-loop-branch
invariant-push_branches-loop-branch l =
    l.initial.sizes ++ branches_sizes l.branches ≡ l.sizes ++ branches_sizes (drop l.branch-index l.branches)
