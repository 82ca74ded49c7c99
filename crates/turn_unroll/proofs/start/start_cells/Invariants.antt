use Rattle.std.proofs.Common.{take}
use Rattle.turn_unroll.specs.Starts.{AreConstants}
use Rattle.turn_unroll.proofs.start.start_cells.Given as goal

abbrev pub invariant-loop-q : goal.invariant-loop-q
invariant-loop-q l = AreConstants (take l.q l.starts) l.cells
