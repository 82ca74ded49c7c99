-- The report of a run.
use Rattle.std.specs.Prelude.{ℕ, Bool, false, List, [], ◌++◌, Option, Some, None, slice_get, codes}
use Rattle.std.specs.Fmt.{signed_decimal}
use Rattle.application.specs.declared.app.App.{App}
use Rattle.chk_base.specs.Widths.{reading_of}
use Rattle.step_ir.specs.declared.code.CellName.{CellName}
use Rattle.step_ir.specs.declared.code.Code.{Code}
use Rattle.step_ir.specs.declared.event.Choice.{Choice}
use Rattle.step_ir.specs.declared.event.Choice.TheVariants as choice
use Rattle.step_ir.specs.declared.event.Event.{Event}
use Rattle.step_ir.specs.declared.event.EventAction.{EventAction}
use Rattle.step_ir.specs.declared.event.EventAction.TheVariants as action
use Rattle.step_ir.specs.declared.event.Failure.{Failure}
use Rattle.step_ir.specs.Fits.{point_count}
use Rattle.step_ir.specs.Points.{cells_of}
use Rattle.replay.specs.declared.run.Replayed.{Replayed}
use Rattle.answers.specs.declared.verdict.Verdict.{Verdict}
use Rattle.answers.specs.declared.verdict.Verdict.TheVariants as verdict
use Rattle.report.specs.EventTexts.{event_lines}
use Rattle.report.specs.Lines.{line, each, counted, entity_name, failure_at, class_text}

-- the first line of a run, or the first two of an application that was made from a number
abbrev pub head_text : Option ℕ → List ℕ
head_text None = line (codes "oschk run")
head_text (Some number) = line (codes "oschk make") ++ line (counted (codes "number ") number)

-- the bounds
abbrev pub bounds_text : ℕ → ℕ → List ℕ
bounds_text turns arrivals = line (counted (codes "bounds ") turns ++ counted (codes " ") arrivals)

-- the number of points
abbrev pub points_text : Code → List ℕ
points_text code = line (counted (codes "points ") (point_count code.entities))

-- a cell has a signed type
abbrev pub is_signed : Option CellName → Bool
is_signed None = false
is_signed (Some name) = name.signed

-- an action is an input into a cell of a signed type
abbrev pub takes_signed : Code → EventAction → Bool
takes_signed code (action.Input cell w) = is_signed (slice_get (cells_of code) cell)
takes_signed code _ = false

-- so is an event, if there is one
abbrev pub is_signed_input : Code → Option Event → Bool
is_signed_input code None = false
is_signed_input code (Some e) = takes_signed code e.action

-- a choice, whose event is this one
abbrev pub choice_line : App → Code → Option Event → Choice → List ℕ
choice_line app code e choice.Go = line (codes "go")
choice_line app code e (choice.GoWith w) = line (codes "go " ++ signed_decimal (reading_of (is_signed_input code e) w))
choice_line app code e (choice.Arrive r) = line (codes "arrive " ++ entity_name app r.0)

-- a schedule: its choices, with the event of each
abbrev pub schedule_text : App → Code → List Event → List Choice → List ℕ
schedule_text app code events choices = each (λ n c. choice_line app code (slice_get events n) c) 0 choices

-- the failure that events end in, if there is one
abbrev pub failed_text : List Event → Option Failure → List ℕ
failed_text events None = []
failed_text events (Some f) = line (codes "verdict fails " ++ failure_at f events)

-- a schedule that fails: the failure, the events and the choices
abbrev pub failing_text : App → Code → Option Replayed → Option (List Choice) → List ℕ
failing_text app code (Some r) (Some choices) =
    failed_text r.events r.failure ++ event_lines app code r.events ++ line (codes "schedule") ++ schedule_text app code r.events choices
failing_text app code _ _ = []

-- the verdict, with the schedule where it fails
abbrev pub verdict_text : App → Code → Verdict → Option Replayed → Option (List Choice) → List ℕ
verdict_text app code verdict.Holds r c = line (codes "verdict holds")
verdict_text app code verdict.Undecided r c = line (codes "verdict undecided")
verdict_text app code verdict.Fails r c = failing_text app code r c

-- the report of a run
abbrev pub run_text : Option ℕ → App → Code → ℕ → ℕ → Verdict → Option Replayed → Option (List Choice) → List ℕ
run_text made app code turns arrivals v r c =
    head_text made ++ class_text app.class ++ bounds_text turns arrivals ++ points_text code ++ verdict_text app code v r c
