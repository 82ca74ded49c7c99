use Rattle.std.proofs.Common.{take}
use Rattle.turn_unroll.specs.Cells.{is_open_in}
use Rattle.turn_unroll.specs.Ways.{OpensWays, offers_of}
use Rattle.turn_unroll.proofs.guards.ways_open.Given as goal

abbrev pub invariant-loop-i : goal.invariant-loop-i
invariant-loop-i l = OpensWays l.fn.circuit l.circuit l.at (is_open_in l.widths l.cells) (offers_of (take l.i l.offers)) l.ways.items
