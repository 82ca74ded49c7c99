-- Errors of services and of ends, and other small answers.
use Rattle.std.specs.Prelude.{◌≡◌, Bool, true, false, ℕ, not, List, [], ◌∷◌, Option, Some, None}
use Rattle.chk_base.specs.Widths.{PlainWord}
use Rattle.osek_machine.specs.Held.{IsFreed}
use Rattle.osek_machine.specs.declared.held.Holding.{Holding}
use Rattle.osek_machine.specs.declared.perform.Performed.TheVariants.{Ends, Refused}
use Rattle.osek_machine.specs.declared.perform.Performed.{Performed}
use Rattle.step_ir.specs.Deeds.{Deed, Leaves, Stops}
use Rattle.step_ir.specs.Numbers.{is_empty}
use Rattle.step_ir.specs.PointStep.{Bits}
use Rattle.step_ir.specs.Services.{fault, fault_if, opening, closing, is_disabled, is_all_suspended, is_os_suspended}
use Rattle.step_ir.specs.declared.event.Failure.{Failure}
use Rattle.step_ir.specs.declared.event.Section.{Section}
use Rattle.step_ir.specs.declared.event.Service.TheVariants.{EnableAll, SuspendAll, ResumeAll, SuspendOs, ResumeOs}
use Rattle.step_ir.specs.declared.event.Service.{Service}

-- the failure that comes of the open sections
abbrev pub section_fault_of : List Section → Service → Option Failure
section_fault_of ss EnableAll = closing is_disabled ss
section_fault_of ss SuspendAll = opening ss
section_fault_of ss ResumeAll = closing is_all_suspended ss
section_fault_of ss SuspendOs = opening ss
section_fault_of ss ResumeOs = closing is_os_suspended ss
section_fault_of ss _ = fault_if (not (is_empty ss)) (fault 8) None

-- the first routine, or else who runs
abbrev pub first_or : List ℕ → Option ℕ → Option ℕ
first_or [] o = o
first_or (x ∷ xs) o = Some x

-- where there is no point, the entity ends, and takes no word
abbrev pub beyond : Option PlainWord → Performed
beyond None = Ends
beyond (Some w) = Refused

-- a task that was begun keeps what it holds, and a fresh request holds nothing
abbrev pub IsRestarted : Bool → List Holding → ℕ → List Holding → Type 0
IsRestarted true old t new = new ≡ old
IsRestarted false old t new = IsFreed old t new

-- what the end of a body is, by its failure
abbrev pub ended_by : Option Failure → Deed ℕ Bits
ended_by None = Leaves
ended_by (Some failure) = Stops failure None
