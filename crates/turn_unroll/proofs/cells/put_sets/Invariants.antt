use Rattle.std.proofs.Common.{drop}
use Rattle.guard_prog.specs.Drafts.{plain_sets}
use Rattle.guard_prog.specs.GuardedRun.{value_set}
use Rattle.turn_unroll.specs.Cells.{SetsCells, cell_in, sets_in, width_in}
use Rattle.turn_unroll.proofs.cells.put_sets.Given as goal

-- the sets from this one on are done
abbrev pub invariant-loop-i : goal.invariant-loop-i
invariant-loop-i l = SetsCells l.fn.circuit l.circuit l.fn.next l.next (λ v q. sets_in v l.taken (value_set (width_in l.widths) (cell_in v l.cells) (plain_sets (drop l.i l.sets)) q) (cell_in v l.fn.next q))
