-- What names mean, and what is asked of a meaning.
use Rattle.std.specs.Prelude.{ℕ, Bool, true, false, not, ◌||◌, ◌==◌, if◌then◌else◌, List, position, Option, Some, None, codes, is_some}
use Rattle.std.specs.Option.{option_map}
use Rattle.std.specs.Str.{bytes_eq}
use Rattle.application.specs.declared.app.App.{App}
use Rattle.c_rules.specs.declared.meaning.ServiceName.{ServiceName}
use Rattle.c_rules.specs.declared.meaning.ServiceName.TheVariants as services
use Rattle.c_rules.specs.declared.meaning.Meaning.{Meaning}
use Rattle.c_rules.specs.declared.meaning.Meaning.TheVariants as m

-- this, and another where there is none
abbrev pub or_else : {A : Type 0} → Option A → Option A → Option A
or_else (Some a) other = Some a
or_else None other = other

-- this, and nothing where there is none
abbrev pub or_nothing : Option Meaning → Meaning
or_nothing (Some meaning) = meaning
or_nothing None = m.Nothing

-- the service of this name
unfoldable pub service_named : List ℕ → Option ServiceName
service_named name =
    if bytes_eq name (codes "ActivateTask") then Some services.ActivateTask
    else if bytes_eq name (codes "TerminateTask") then Some services.TerminateTask
    else if bytes_eq name (codes "ChainTask") then Some services.ChainTask
    else if bytes_eq name (codes "Schedule") then Some services.Schedule
    else if bytes_eq name (codes "GetResource") then Some services.GetResource
    else if bytes_eq name (codes "ReleaseResource") then Some services.ReleaseResource
    else if bytes_eq name (codes "DisableAllInterrupts") then Some services.DisableAllInterrupts
    else if bytes_eq name (codes "EnableAllInterrupts") then Some services.EnableAllInterrupts
    else if bytes_eq name (codes "SuspendAllInterrupts") then Some services.SuspendAllInterrupts
    else if bytes_eq name (codes "ResumeAllInterrupts") then Some services.ResumeAllInterrupts
    else if bytes_eq name (codes "SuspendOSInterrupts") then Some services.SuspendOsInterrupts
    else if bytes_eq name (codes "ResumeOSInterrupts") then Some services.ResumeOsInterrupts
    else None

-- the name of a service that is left out (OSEK OS 2.2.3, 13.2, 13.5, 13.6 and 13.7)
unfoldable pub is_left_out : List ℕ → Bool
is_left_out name =
    bytes_eq name (codes "StartOS")
    || (bytes_eq name (codes "ShutdownOS")
    || (bytes_eq name (codes "GetTaskID")
    || (bytes_eq name (codes "GetTaskState")
    || (bytes_eq name (codes "GetActiveApplicationMode")
    || (bytes_eq name (codes "SetEvent")
    || (bytes_eq name (codes "ClearEvent")
    || (bytes_eq name (codes "GetEvent")
    || (bytes_eq name (codes "WaitEvent")
    || (bytes_eq name (codes "GetAlarmBase")
    || (bytes_eq name (codes "GetAlarm")
    || (bytes_eq name (codes "SetRelAlarm")
    || (bytes_eq name (codes "SetAbsAlarm")
    || bytes_eq name (codes "CancelAlarm")))))))))))))

-- the name of the function that gives an input
unfoldable pub is_input_name : List ℕ → Bool
is_input_name name = bytes_eq name (codes "oschk_input")

-- the scheduler as a resource (OSEK OS 2.2.3, 8.3)
unfoldable pub is_scheduler_name : List ℕ → Bool
is_scheduler_name name = bytes_eq name (codes "RES_SCHEDULER")

-- the number of the task of this name among the tasks
abbrev pub task_named : App → List ℕ → Option ℕ
task_named app name = position (λ t. bytes_eq name t.name) app.tasks

-- the number of the routine of this name among the routines
abbrev pub routine_named : App → List ℕ → Option ℕ
routine_named app name = position (λ r. bytes_eq name r.name) app.routines

-- the number of the resource of this name
abbrev pub resource_named : App → List ℕ → Option ℕ
resource_named app name = position (λ r. bytes_eq name r.name) app.resources

-- the object of the application that has this name
abbrev pub object_named : App → List ℕ → Option Meaning
object_named app name =
    or_else (option_map m.Task (task_named app name))
    (or_else (option_map m.Routine (routine_named app name))
    (option_map m.Resource (resource_named app name)))

-- a service, or `oschk_input`
abbrev pub system_named : List ℕ → Option Meaning
system_named name =
    or_else (option_map m.Service (service_named name)) (if is_input_name name then Some m.Input else None)

-- a service that is left out
abbrev pub left_out_named : List ℕ → Option Meaning
left_out_named name = if is_left_out name then Some m.LeftOut else None

-- C2: the name has no declaration, and isn't called by the name of a service that is left out
abbrev pub is_undeclared : Meaning → Bool
is_undeclared m.Nothing = true
is_undeclared m.LeftOut = true
is_undeclared _ = false

abbrev pub is_local : Meaning → Bool
is_local (m.Local l) = true
is_local _ = false

-- C4: a function stands as value or target
abbrev pub is_function : Meaning → Bool
is_function (m.Function f) = true
is_function _ = false

-- C4: a variable is called
abbrev pub is_variable : Meaning → Bool
is_variable (m.Local l) = true
is_variable (m.Variable v) = true
is_variable _ = false

-- C8: the target is a const variable
abbrev pub is_constant : Meaning → Bool
is_constant (m.Local l) = l.constant
is_constant (m.Variable v) = v.constant
is_constant _ = false

-- C10: an array stands without an index, or a scalar has one
abbrev pub is_misindexed : Bool → Meaning → Bool
is_misindexed indexed (m.Local l) = indexed
is_misindexed indexed (m.Variable v) = if indexed then not (is_some v.len) else is_some v.len
is_misindexed indexed _ = false

-- C16: a service
abbrev pub is_service : Meaning → Bool
is_service (m.Service s) = true
is_service _ = false

-- C11: `oschk_input`
abbrev pub is_input : Meaning → Bool
is_input m.Input = true
is_input _ = false

-- C20: a task, routine or resource of the application
abbrev pub is_object : Meaning → Bool
is_object (m.Task n) = true
is_object (m.Routine n) = true
is_object (m.Resource n) = true
is_object _ = false

-- C1: a service that is left out
abbrev pub is_left_out_meaning : Meaning → Bool
is_left_out_meaning m.LeftOut = true
is_left_out_meaning _ = false

-- C2, at a call: nothing
abbrev pub is_nothing : Meaning → Bool
is_nothing m.Nothing = true
is_nothing _ = false

-- C12: a function without a result
abbrev pub is_void : Meaning → Bool
is_void (m.Function f) = not (is_some f.result)
is_void _ = false

-- how many arguments a service takes (OSEK OS 2.2.3, 13)
abbrev pub service_arguments : ServiceName → ℕ
service_arguments services.ActivateTask = 1
service_arguments services.ChainTask = 1
service_arguments services.GetResource = 1
service_arguments services.ReleaseResource = 1
service_arguments _ = 0

-- C5: a function, a service or `oschk_input` takes another number of arguments
abbrev pub takes_other : Meaning → ℕ → Bool
takes_other (m.Function f) n = not (n == f.parameters)
takes_other (m.Service s) n = not (n == service_arguments s)
takes_other m.Input n = not (n == 0)
takes_other _ n = false

-- the argument is the name of a task
abbrev pub takes_task : Meaning → Bool
takes_task (m.Service services.ActivateTask) = true
takes_task (m.Service services.ChainTask) = true
takes_task _ = false

-- the argument is the name of a resource
abbrev pub takes_resource : Meaning → Bool
takes_resource (m.Service services.GetResource) = true
takes_resource (m.Service services.ReleaseResource) = true
takes_resource _ = false

abbrev pub is_task : Meaning → Bool
is_task (m.Task n) = true
is_task _ = false

-- a resource of the application, or the scheduler as one, where no local hides it
abbrev pub is_resource : List ℕ → Meaning → Bool
is_resource name (m.Resource n) = true
is_resource name (m.Local l) = false
is_resource name _ = is_scheduler_name name
