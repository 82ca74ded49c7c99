-- What the laws of the scheduler say, as the lemmas here take it.
use Rattle.std.proofs.Common.{◌≡◌, ℕ, ◌*◌, ◌<◌, ◌≤◌, true, List, [], ◌∷◌, length, Option, Some, None}
use Rattle.application.specs.declared.app.Entity.{Entity}
use Rattle.chk_base.specs.Term.{Term}
use Rattle.chk_base.specs.WordValue.{IsWithin}
use Rattle.step_ir.specs.declared.code.Code.{Code}
use Rattle.step_ir.specs.declared.event.Failure.{Failure}
use Rattle.step_ir.specs.declared.event.Service.{Service}
use Rattle.step_ir.specs.Fits.{AreSetsFit, ReadsBetween, bit_count}
use Rattle.step_ir.specs.Numbers.{AreUnder, times}
use Rattle.step_ir.specs.Points.{cells_of, first_cell}
use Rattle.step_ir.specs.Reschedule.{highest}
use Rattle.step_ir.specs.SchedulerState.{Entry}
use Rattle.step_ir.specs.Services.{Scene, fault_of, leaving}
use Rattle.step_ir.specs.Setting.{IsSound, Setting}

-- of numbers below n, each at most k times, there are at most n * k
abbrev pub AreFew : Type 0
AreFew = (n k : ℕ) (xs : List ℕ) → AreUnder n xs → ((q : ℕ) → times q xs ≤ k) → length xs ≤ n * k

-- the highest list that isn't empty, where all above it are
abbrev pub IsHighest : Type 0
IsHighest = (ready : ℕ → List Entry) (n l : ℕ) (e : Entry) (es : List Entry) → l ≤ n → ready l ≡ e ∷ es → ((k : ℕ) → l < k → ready k ≡ []) → highest ready n ≡ Some l

-- there is none where all are empty
abbrev pub AreEmpty : Type 0
AreEmpty = (ready : ℕ → List Entry) (n : ℕ) → ((k : ℕ) → ready k ≡ []) → highest ready n ≡ None

-- what is activated or chained without an error is a task
abbrev pub IsRequested : (Entity → Service) → Type 0
IsRequested service = (app : Setting) → IsSound app → (c : Scene) (t : Entity) → fault_of app c (service t) ≡ None → app.is_task t.0 ≡ true

-- who may leave the processor is a task that holds nothing
abbrev pub MayLeave : Type 0
MayLeave = (app : Setting) (c : Scene) (rest : Option Failure) → leaving app c rest ≡ None → (app.is_task c.caller ≡ true) × (c.held ≡ []) × (rest ≡ None)

-- what a point names is among the cells
pub record AreCellsWithin : Type 0 where
  pub reads : (low high n : ℕ) (t : Term) → ReadsBetween low high t → high ≤ n → IsWithin n t
  pub own : (code : Code) (e : ℕ) → first_cell code e ≤ length (cells_of code)
  pub globals : (code : Code) → length code.globals ≤ length (cells_of code)
  pub few_cells : (code : Code) → length (cells_of code) ≤ bit_count (cells_of code)
  pub few_sets : (code : Code) (e : ℕ) (sets : List (ℕ × Term)) → AreSetsFit code e sets → length sets ≤ length (cells_of code)
