use Rattle.std.proofs.Common.{◌≡◌, ◌^◌, ◌≤◌, length, drop}
use Rattle.std.specs.Prelude.{map}
use Rattle.typed_unit.specs.Views.{block_of, branch_of}
use Rattle.lower_law.specs.Statements.{block}
use Rattle.lower_law.specs.Translated.{joined, statements}
use Rattle.lower_code.specs.Chains.{AllNumbersBelow, chained_cells}
use Rattle.lower_pieces.specs.Trees.{statement_of}
use Rattle.lower_code.proofs.statements.+statements.Given as goal

-- what is left of the statements
abbrev pub invariant-statement_block-loop-s : goal.invariant-statement_block-loop-s
invariant-statement_block-loop-s l =
    AllNumbersBelow (2 ^ 16) (statements l.globals l.locals (block_of (drop l.s-index l.ss)))
    × (statements l.globals l.locals (block_of l.ss) ≡ joined (block (map statement_of l.trees.items)) (statements l.globals l.locals (block_of (drop l.s-index l.ss))))

-- the last branches are done
abbrev pub invariant-chained-loop-i : goal.invariant-chained-loop-i
invariant-chained-loop-i l =
    (l.i ≤ length l.branches)
    × (l.from ≤ l.i)
    × (block (map statement_of l.rest.items) ≡ chained_cells l.globals l.locals (map branch_of (drop l.i l.branches)) (block (map statement_of l.fn.off.items)))

abbrev pub decreases-chained-loop-i : goal.decreases-chained-loop-i
decreases-chained-loop-i l = l.i
