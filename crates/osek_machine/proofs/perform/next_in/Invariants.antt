use Rattle.std.proofs.Common.{length, drop, map}
use Rattle.osek_machine.proofs.Firsts.{IsAhead}
use Rattle.osek_machine.proofs.perform.next_in.Given as goal
use Rattle.osek_machine.specs.CellWords.{widths, bits}
use Rattle.step_ir.specs.PointStep.{val}
use Rattle.step_ir.specs.Points.{item_of}

abbrev pub invariant-loop-next : goal.invariant-loop-next
invariant-loop-next l = IsAhead (length l.cells) (val (widths l.cells) (bits l.cells)) (map item_of l.nexts) (map item_of (drop l.next-index l.nexts))
