use Rattle.std.proofs.Common.{◌≡◌, ◌-◌, ◌^◌, min, take}
use Rattle.std.specs.Prelude.{map}
use Rattle.lower_law.specs.Items.{sites_all}
use Rattle.lower_law.specs.Statements.{asked}
use Rattle.lower_pieces.specs.Trees.{tree_of}
use Rattle.lower_pieces.proofs.sizes.sites_in_all.Given as goal

-- the sum so far
abbrev pub invariant-loop-argument : goal.invariant-loop-argument
invariant-loop-argument l = l.total ≡ min (sites_all (asked (map tree_of (take l.argument-index l.arguments)))) (2 ^ 64 - 1)
