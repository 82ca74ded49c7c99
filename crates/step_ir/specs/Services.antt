-- Services: what each finds, its errors in the order in which they are tested, and what it does to the open sections (OSEK OS 2.2.3, 13).
use Rattle.std.specs.Prelude.{ℕ, ◌-◌, Bool, true, false, not, ◌||◌, List, [], ◌∷◌, length, Option, Some, None, if◌then◌else◌, nat_le, ◌==◌}
use Rattle.step_ir.specs.declared.event.Failure.{Failure}
use Rattle.step_ir.specs.declared.event.Section.{Section}
use Rattle.step_ir.specs.declared.event.Section.TheVariants.{Disabled, AllSuspended, OsSuspended}
use Rattle.step_ir.specs.declared.event.Service.{Service}
use Rattle.step_ir.specs.declared.event.Service.TheVariants.{Activate, Terminate, Chain, Schedule, Get, Release, DisableAll, EnableAll, SuspendAll, ResumeAll, SuspendOs, ResumeOs}
use Rattle.step_ir.specs.Numbers.{is_empty, tail}
use Rattle.step_ir.specs.Setting.{Setting}

-- what a service finds: who calls, the caller's resources with the last taken first, which resources are held by any entity, the open sections with the innermost first, and the requests of each task
pub record Scene : Type 0 where
  pub caller : ℕ
  pub held : List ℕ
  pub is_held : ℕ → Bool
  pub sections : List Section
  pub requests : ℕ → ℕ

-- a section that `DisableAllInterrupts` opened
abbrev pub is_disabled : Section → Bool
is_disabled Disabled = true
is_disabled _ = false

-- a section that `SuspendAllInterrupts` opened
abbrev pub is_all_suspended : Section → Bool
is_all_suspended AllSuspended = true
is_all_suspended _ = false

-- a section that `SuspendOSInterrupts` opened
abbrev pub is_os_suspended : Section → Bool
is_os_suspended OsSuspended = true
is_os_suspended _ = false

-- the innermost section is one of these
abbrev pub innermost : (Section → Bool) → List Section → Bool
innermost test [] = false
innermost test (s ∷ ss) = test s

-- the failure that a service answers this status
abbrev pub status : ℕ → Failure
status c = record { number = 2; code = c }

-- another failure, by its number
abbrev pub fault : ℕ → Failure
fault n = record { number = n; code = 0 }

-- the failure where the test holds, and else the rest
abbrev pub fault_if : Bool → Failure → Option Failure → Option Failure
fault_if test failure rest = if test then Some failure else rest

-- the errors of a service by which its caller leaves the processor, before the rest: it is called in a section, by a routine, or by a task that holds a resource
abbrev pub leaving : Setting → Scene → Option Failure → Option Failure
leaving app c rest =
    fault_if (not (is_empty c.sections)) (fault 8)
    (fault_if (not (app.is_task c.caller)) (status 2)
    (fault_if (not (is_empty c.held)) (status 6) rest))

-- the requests of a task after one of the caller's has ended
abbrev pub others : Scene → ℕ → ℕ
others c t = if t == c.caller then c.requests t - 1 else c.requests t

-- this resource was taken last
abbrev pub last_taken : ℕ → List ℕ → Bool
last_taken r [] = false
last_taken r (x ∷ xs) = x == r

-- the failure of a service that would open a section inside `DisableAllInterrupts`, or a ninth one
abbrev pub opening : List Section → Option Failure
opening ss = fault_if (innermost is_disabled ss || nat_le 8 (length ss)) (fault 8) None

-- the failure of a service that would close a section where the innermost is none of these
abbrev pub closing : (Section → Bool) → List Section → Option Failure
closing test ss = fault_if (not (innermost test ss)) (fault 8) None

-- the first error of a service
abbrev pub fault_of : Setting → Scene → Service → Option Failure
fault_of app c (Activate t) =
    fault_if (not (is_empty c.sections)) (fault 8) (fault_if (nat_le (app.limit t.0) (c.requests t.0)) (status 4) None)
fault_of app c Terminate = leaving app c None
fault_of app c (Chain t) = leaving app c (fault_if (nat_le (app.limit t.0) (others c t.0)) (status 4) None)
fault_of app c Schedule = leaving app c None
fault_of app c (Get r) =
    fault_if (not (is_empty c.sections)) (fault 8) (fault_if (c.is_held r) (status 1) None)
fault_of app c (Release r) =
    fault_if (not (is_empty c.sections)) (fault 8) (fault_if (not (last_taken r c.held)) (status 5) None)
fault_of app c DisableAll = fault_if (not (is_empty c.sections)) (fault 8) None
fault_of app c EnableAll = closing is_disabled c.sections
fault_of app c SuspendAll = opening c.sections
fault_of app c ResumeAll = closing is_all_suspended c.sections
fault_of app c SuspendOs = opening c.sections
fault_of app c ResumeOs = closing is_os_suspended c.sections

-- the open sections after a service
abbrev pub sections_after : Service → List Section → List Section
sections_after DisableAll ss = Disabled ∷ ss
sections_after EnableAll ss = tail ss
sections_after SuspendAll ss = AllSuspended ∷ ss
sections_after ResumeAll ss = tail ss
sections_after SuspendOs ss = OsSuspended ∷ ss
sections_after ResumeOs ss = tail ss
sections_after _ ss = ss
