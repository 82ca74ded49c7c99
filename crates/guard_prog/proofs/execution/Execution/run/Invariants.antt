use Rattle.std.proofs.Common.{◌≡◌, length}
use Rattle.guard_prog.specs.Drafts.{program_of}
use Rattle.guard_prog.specs.Executions.{IsExecutionOf, state_of}
use Rattle.guard_prog.specs.GuardedRun.{run, start_of}
use Rattle.guard_prog.proofs.execution.Execution.run.Given as goal

-- the rest of the pairs, from the state that was reached, leads where all of them lead from the start
abbrev pub invariant-loop-pair : goal.invariant-loop-pair
invariant-loop-pair l =
    record {
      widths : IsExecutionOf l.program l.execution;
      rest : run (program_of l.program) l.rest (state_of l.execution) ≡ run (program_of l.program) l.pairs (start_of (program_of l.program));
    }

abbrev pub decreases-loop-pair : goal.decreases-loop-pair
decreases-loop-pair l = length l.rest
