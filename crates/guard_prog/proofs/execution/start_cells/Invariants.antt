use Rattle.std.proofs.Common.{◌≡◌}
use Rattle.guard_prog.specs.Executions.{widths_of, bits_at}
use Rattle.guard_prog.proofs.Cells.{StartedBelow}
use Rattle.guard_prog.proofs.execution.start_cells.Given as goal

-- the cells before this one have their start values
abbrev pub invariant-loop-q : goal.invariant-loop-q
invariant-loop-q l =
    record {
      widths : widths_of l.cells ≡ l.widths;
      started : StartedBelow l.starts (bits_at l.cells) l.q;
    }
