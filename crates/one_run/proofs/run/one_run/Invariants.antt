use Rattle.std.proofs.Common.{◌≡◌, ◌≤◌, false, length}
use Rattle.osek_machine.specs.Steps.{HasRun, view_of}
use Rattle.step_ir.specs.PermittedSchedule.{fails}
use Rattle.one_run.specs.OneRun.{steps}
use Rattle.one_run.proofs.OnlyRun.{AreHarmless}
use Rattle.one_run.proofs.run.one_run.Given as goal

abbrev pub invariant-loop : goal.invariant-loop
invariant-loop l =
    record {
      run : HasRun l.app l.code (steps (length l.events)) l.events l.machine;
      count : length l.events ≡ l.counter;
      arrivals : (view_of l.machine).arrivals ≤ l.counter;
      fails : fails l.events ≡ false;
      harmless : AreHarmless l.events;
    }
