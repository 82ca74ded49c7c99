-- The report of a replay.
use Rattle.std.specs.Prelude.{ℕ, Bool, true, false, List, [], ◌++◌, Option, Some, None, Result, Ok, Err, codes}
use Rattle.application.specs.declared.app.App.{App}
use Rattle.application.specs.declared.app.Entity.{Entity}
use Rattle.osek_machine.specs.declared.machine.StateView.{StateView}
use Rattle.step_ir.specs.declared.code.Code.{Code}
use Rattle.step_ir.specs.declared.event.Event.{Event}
use Rattle.step_ir.specs.declared.event.Failure.{Failure}
use Rattle.replay.specs.declared.run.ReplayFault.{ReplayFault}
use Rattle.replay.specs.declared.run.ReplayFault.TheVariants as fault
use Rattle.replay.specs.declared.run.Replayed.{Replayed}
use Rattle.report.specs.EventTexts.{event_lines}
use Rattle.report.specs.Lines.{line, counted, entity_name, failure_at}

-- how a replay ends: in a failure, or with the last choice
abbrev pub end_text : List Event → Option Failure → List ℕ
end_text events None = line (codes "done")
end_text events (Some f) = line (codes "fails " ++ failure_at f events)

-- who runs at this level, if any
abbrev pub running_text : App → Option Entity → ℕ → List ℕ
running_text app None level = line (codes "idle")
running_text app (Some e) level = line (codes "running " ++ entity_name app e.0 ++ counted (codes " level ") level)

-- the state in which a choice isn't permitted; after a failure it is stopped
abbrev pub stopped_text : App → StateView → Bool → List ℕ
stopped_text app state true = line (codes "stopped")
stopped_text app state false = running_text app state.running state.level

abbrev pub state_text : App → StateView → List ℕ
state_text app state = stopped_text app state state.stopped

-- the report
abbrev pub replayed_text : App → Code → Result Replayed ReplayFault → List ℕ
replayed_text app code (Ok r) = event_lines app code r.events ++ end_text r.events r.failure
replayed_text app code (Err (fault.NotPermitted step state events)) =
    event_lines app code events ++ line (counted (codes "not permitted ") step) ++ state_text app state
replayed_text app code (Err fault.Memory) = []

abbrev pub replay_text : App → Code → Result Replayed ReplayFault → List ℕ
replay_text app code result = line (codes "oschk replay") ++ replayed_text app code result
