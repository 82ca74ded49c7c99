use Rattle.std.proofs.Common.{◌+◌, ◌≤◌, length}
use Rattle.osek_machine.specs.Steps.{StandsAt, start_of, view_of}
use Rattle.replay.specs.ScheduleText.{after_all}
use Rattle.replay.proofs.Schedules.{IsReadSoFar}
use Rattle.replay.proofs.schedule.read_schedule.Given as goal

abbrev pub invariant-loop-all : goal.invariant-loop-all
invariant-loop-all l =
    record {
      stands : StandsAt l.app l.code (after_all l.app l.code (start_of l.app l.code) l.choices) l.machine;
      so_far : IsReadSoFar l.app l.code l.text l.rest l.choices;
      few : length l.choices + length l.rest ≤ length l.text;
      shorter : (view_of l.machine).arrivals + length l.rest ≤ length l.text;
    }

abbrev pub decreases-loop-all : goal.decreases-loop-all
decreases-loop-all l = length l.rest
