-- The lines of events.
use Rattle.std.specs.Prelude.{ℕ, Bool, true, false, List, [], ◌++◌, Option, Some, None, slice_get, unwrap_or, codes, decimal}
use Rattle.std.specs.Fmt.{signed_decimal}
use Rattle.application.specs.declared.app.App.{App}
use Rattle.chk_base.specs.Widths.{PlainWord, reading_of}
use Rattle.step_ir.specs.declared.code.CellName.{CellName}
use Rattle.step_ir.specs.declared.code.Code.{Code}
use Rattle.step_ir.specs.declared.event.Event.{Event}
use Rattle.step_ir.specs.declared.event.EventAction.{EventAction}
use Rattle.step_ir.specs.declared.event.EventAction.TheVariants as action
use Rattle.step_ir.specs.declared.event.Failure.{Failure}
use Rattle.step_ir.specs.declared.event.Next.{Next}
use Rattle.step_ir.specs.declared.event.Next.TheVariants as next
use Rattle.step_ir.specs.declared.event.Service.{Service}
use Rattle.step_ir.specs.declared.event.Service.TheVariants as service
use Rattle.step_ir.specs.Points.{cells_of}
use Rattle.report.specs.Lines.{line, each, entity_name, resource_name, failure_text}

-- the place of an element in brackets
abbrev pub element_text : Option ℕ → List ℕ
element_text None = []
element_text (Some i) = codes "[" ++ decimal i ++ codes "]"

-- the name of a variable or element, an equals sign, and a value in the reading of the variable's type
abbrev pub value_text : Option CellName → PlainWord → List ℕ
value_text None w = []
value_text (Some c) w = c.text ++ element_text c.element ++ codes "=" ++ signed_decimal (reading_of c.signed w)

-- a word, a blank, and the value of a cell
abbrev pub cell_text : List ℕ → Code → ℕ → PlainWord → List ℕ
cell_text word code cell w = word ++ codes " " ++ value_text (slice_get (cells_of code) cell) w

-- the name of a service (OSEK OS 2.2.3, 13)
abbrev pub service_word : Service → List ℕ
service_word (service.Activate t) = codes "ActivateTask"
service_word service.Terminate = codes "TerminateTask"
service_word (service.Chain t) = codes "ChainTask"
service_word service.Schedule = codes "Schedule"
service_word (service.Get r) = codes "GetResource"
service_word (service.Release r) = codes "ReleaseResource"
service_word service.DisableAll = codes "DisableAllInterrupts"
service_word service.EnableAll = codes "EnableAllInterrupts"
service_word service.SuspendAll = codes "SuspendAllInterrupts"
service_word service.ResumeAll = codes "ResumeAllInterrupts"
service_word service.SuspendOs = codes "SuspendOSInterrupts"
service_word service.ResumeOs = codes "ResumeOSInterrupts"

-- a blank and the argument of a service that has one
abbrev pub argument_text : App → Service → List ℕ
argument_text app (service.Activate t) = codes " " ++ entity_name app t.0
argument_text app (service.Chain t) = codes " " ++ entity_name app t.0
argument_text app (service.Get r) = codes " " ++ resource_name app r
argument_text app (service.Release r) = codes " " ++ resource_name app r
argument_text app _ = []

-- a service with its argument
abbrev pub service_text : App → Service → List ℕ
service_text app s = service_word s ++ argument_text app s

-- a blank and a service, if there is one
abbrev pub service_after : App → Option Service → List ℕ
service_after app None = []
service_after app (Some s) = codes " " ++ service_text app s

abbrev pub branch_text : Bool → List ℕ
branch_text true = codes "branch 1"
branch_text false = codes "branch 0"

abbrev pub return_text : Code → Option (ℕ × PlainWord) → List ℕ
return_text code None = codes "return"
return_text code (Some x) = cell_text (codes "return") code x.0 x.1

abbrev pub call_text : Code → ℕ → List ℕ
call_text code f = codes "call " ++ unwrap_or (slice_get code.functions f) []

-- a failure, with the service that it comes from
abbrev pub fail_text : App → Failure → Option Service → List ℕ
fail_text app f s = codes "fail " ++ failure_text f ++ service_after app s

-- what was done
abbrev pub action_text : App → Code → EventAction → List ℕ
action_text app code action.Arrive = codes "arrive"
action_text app code (action.Read cell w) = cell_text (codes "read") code cell w
action_text app code (action.Write cell w) = cell_text (codes "write") code cell w
action_text app code (action.Local cell w) = cell_text (codes "local") code cell w
action_text app code (action.Branch b) = branch_text b
action_text app code (action.Input cell w) = cell_text (codes "input") code cell w
action_text app code (action.Call f) = call_text code f
action_text app code (action.Return set) = return_text code set
action_text app code (action.Service s) = service_text app s
action_text app code action.Assert = codes "assert"
action_text app code action.End = codes "end"
action_text app code (action.Fail f s) = fail_text app f s

-- who runs afterwards
abbrev pub next_text : App → Next → List ℕ
next_text app (next.Runs e) = entity_name app e.0
next_text app next.Idle = codes "idle"
next_text app next.Stop = codes "stop"

-- an event with its number, from 1
abbrev pub event_text : App → Code → ℕ → Event → List ℕ
event_text app code n e =
    decimal n ++ codes " " ++ entity_name app e.actor.0 ++ codes " " ++ action_text app code e.action ++ codes " -> " ++ next_text app e.next

-- its line
abbrev pub event_line : App → Code → ℕ → Event → List ℕ
event_line app code n e = line (event_text app code n e)

-- the lines of events
abbrev pub event_lines : App → Code → List Event → List ℕ
event_lines app code events = each (event_line app code) 1 events
