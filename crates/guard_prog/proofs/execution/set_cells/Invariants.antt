use Rattle.std.proofs.Common.{◌≡◌, ℕ, drop}
use Rattle.guard_prog.specs.Drafts.{plain_sets}
use Rattle.guard_prog.specs.Executions.{widths_of, width_at, bits_at}
use Rattle.guard_prog.specs.GuardedRun.{cell_after_sets}
use Rattle.guard_prog.proofs.execution.set_cells.Given as goal

-- the sets from this one on are done
abbrev pub invariant-loop-i : goal.invariant-loop-i
invariant-loop-i l =
    record {
      widths : widths_of l.after ≡ widths_of l.cells;
      bits : (q : ℕ) → bits_at l.after q ≡ cell_after_sets (width_at l.cells) (bits_at l.cells) (plain_sets (drop l.i l.sets)) q;
    }
