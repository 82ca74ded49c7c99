-- Kinds of objects (OIL 2.5, 2.3).
use Rattle.std.specs.Prelude.{ℕ, Bool, true, false, if◌then◌else◌, List, codes}
use Rattle.std.specs.Str.{bytes_eq}
use Rattle.oil_rules.specs.declared.kind.Kind.{Kind}
use Rattle.oil_rules.specs.declared.kind.Kind.TheVariants as kinds

-- the kind that a word stands for
unfoldable pub kind_of : List ℕ → Kind
kind_of word =
    if bytes_eq word (codes "OS") then kinds.Os
    else (if bytes_eq word (codes "TASK") then kinds.Task
    else (if bytes_eq word (codes "COUNTER") then kinds.Counter
    else (if bytes_eq word (codes "ALARM") then kinds.Alarm
    else (if bytes_eq word (codes "RESOURCE") then kinds.Resource
    else (if bytes_eq word (codes "EVENT") then kinds.Event
    else (if bytes_eq word (codes "ISR") then kinds.Isr
    else (if bytes_eq word (codes "MESSAGE") then kinds.Message
    else (if bytes_eq word (codes "NETWORKMESSAGE") then kinds.NetworkMessage
    else (if bytes_eq word (codes "COM") then kinds.Com
    else (if bytes_eq word (codes "NM") then kinds.Nm
    else (if bytes_eq word (codes "IPDU") then kinds.Ipdu
    else (if bytes_eq word (codes "APPMODE") then kinds.Appmode else kinds.Unknown))))))))))))

-- it is a task
abbrev pub is_task : Kind → Bool
is_task kinds.Task = true
is_task _ = false

-- it is an interrupt service routine
abbrev pub is_routine : Kind → Bool
is_routine kinds.Isr = true
is_routine _ = false

-- it is a resource
abbrev pub is_resource_kind : Kind → Bool
is_resource_kind kinds.Resource = true
is_resource_kind _ = false

-- it is an operating system
abbrev pub is_system : Kind → Bool
is_system kinds.Os = true
is_system _ = false

-- it is an application mode
abbrev pub is_mode_kind : Kind → Bool
is_mode_kind kinds.Appmode = true
is_mode_kind _ = false

-- the name of the scheduler as a resource (OSEK OS 2.2.3, 8.3)
unfoldable pub is_scheduler : List ℕ → Bool
is_scheduler name = bytes_eq name (codes "RES_SCHEDULER")
