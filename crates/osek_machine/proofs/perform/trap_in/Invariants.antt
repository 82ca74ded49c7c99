use Rattle.std.proofs.Common.{length, drop, map}
use Rattle.osek_machine.proofs.Firsts.{IsAhead}
use Rattle.osek_machine.proofs.perform.trap_in.Given as goal
use Rattle.osek_machine.specs.CellWords.{widths, bits}
use Rattle.step_ir.specs.PointStep.{val}
use Rattle.step_ir.specs.Points.{item_of}

abbrev pub invariant-loop-trap : goal.invariant-loop-trap
invariant-loop-trap l = IsAhead (length l.cells) (val (widths l.cells) (bits l.cells)) (map item_of l.traps) (map item_of (drop l.trap-index l.traps))
