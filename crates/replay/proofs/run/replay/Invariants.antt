use Rattle.std.proofs.Common.{◌≡◌, ◌≤◌, take}
use Rattle.osek_machine.specs.Steps.{HasRun, view_of}
use Rattle.replay.specs.Replaying.{last_failure}
use Rattle.replay.proofs.run.replay.Given as goal

abbrev pub invariant-loop-i : goal.invariant-loop-i
invariant-loop-i l =
    record {
      run : HasRun l.app l.code (take l.i l.choices) l.events l.machine;
      arrivals : (view_of l.machine).arrivals ≤ l.i;
      failure : l.failure ≡ last_failure l.events;
    }
