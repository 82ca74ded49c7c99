use Rattle.std.proofs.Common.{◌≡◌, ◌++◌, drop}
use Rattle.static_rules.specs.Sites.{block_sites, branches_sites}
use Rattle.static_rules.proofs.collect.+walk.Given as goal

-- what is left of the statements
abbrev pub invariant-push_block-loop-statement : goal.invariant-push_block-loop-statement
invariant-push_block-loop-statement l =
    l.initial.sites ++ block_sites l.block ≡ l.sites ++ block_sites (drop l.statement-index l.block)

-- what is left of the branches
abbrev pub invariant-push_branches-loop-branch : goal.invariant-push_branches-loop-branch
invariant-push_branches-loop-branch l =
    l.initial.sites ++ branches_sites l.branches ≡ l.sites ++ branches_sites (drop l.branch-index l.branches)
