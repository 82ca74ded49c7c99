-- What the point alone does of a step, whoever runs it.
use Rattle.std.specs.Prelude.{◌≡◌, ℕ, List, [], ◌∷◌, length, Option, Some, None}
use Rattle.chk_base.specs.declared.word.Width.{Width}
use Rattle.chk_base.specs.Term.{Term}
use Rattle.chk_base.specs.Widths.{PlainWord}
use Rattle.osek_machine.specs.CellWords.{widths, bits}
use Rattle.osek_machine.specs.declared.perform.Performed.{Performed}
use Rattle.osek_machine.specs.declared.perform.Performed.TheVariants.{Did, Calls, Ends, Fails, Refused}
use Rattle.step_ir.specs.declared.event.Choice.{Choice}
use Rattle.step_ir.specs.declared.event.Choice.TheVariants.{Go, GoWith}
use Rattle.step_ir.specs.declared.event.EventAction.{EventAction}
use Rattle.step_ir.specs.Deeds.{Moves, Stops, deed_of, end_of, serve}
use Rattle.step_ir.specs.EntityStep.{Want, Does, InputFails}
use Rattle.step_ir.specs.Numbers.{put}
use Rattle.step_ir.specs.Points.{PlainAction, Input}
use Rattle.step_ir.specs.PointStep.{Bits, act, go_on, stored}
use Rattle.step_ir.specs.Services.{Scene, fault, fault_of}
use Rattle.step_ir.specs.Setting.{Setting}

-- an action is done: this is its event, and these are the cells after it, wherever the entity goes on
pub record IsDone (action : PlainAction) (old : List PlainWord) (event : EventAction) (new : List PlainWord) : Type 0 where
  pub does : (nexts : List (Term × ℕ)) → act (widths old) action nexts (bits old) ≡ Does event (go_on (widths old) nexts (bits new))
  pub widths : widths new ≡ widths old
  pub length : length new ≡ length old

-- the values of these sets
abbrev pub values_of : (Term → ℕ) → List (ℕ × Term) → List ℕ
values_of v [] = []
values_of v (s ∷ ss) = v s.1 ∷ values_of v ss

-- each cell is set to its number, cut to the cell's width
abbrev pub set_values : (ℕ → Width) → List (ℕ × Term) → List ℕ → Bits → Bits
set_values width [] ns bits = bits
set_values width (s ∷ ss) [] bits = bits
set_values width (s ∷ ss) (n ∷ ns) bits = set_values width ss ns (put bits s.0 (stored width s.0 n).bits)

-- what an input wants, by the number of the trap that counts
abbrev pub input_want : (ℕ → Width) → ℕ → Option ℕ → List (Term × ℕ) → Bits → Want ℕ Bits
input_want width cell None nexts bits = act width (Input cell) nexts bits
input_want width cell (Some n) nexts bits = InputFails (width cell) (fault n)

-- the choice of a step with this word, or without one
abbrev pub choice_of : Option PlainWord → Choice
choice_of None = Go
choice_of (Some w) = GoWith w

-- whatever the scene, this is what the scheduler has to do, and the cells become these
abbrev pub IsPerformed : Want ℕ Bits → Choice → List PlainWord → Performed → List PlainWord → Type 0
IsPerformed want choice old (Did action next) new =
    (app : Setting) (c : Scene) → deed_of app c want choice ≡ Some (Moves action (record { state = next; globals = bits new }))
IsPerformed want choice old (Calls service next) new =
    (new ≡ old) × ((app : Setting) (c : Scene) → deed_of app c want choice ≡ Some (serve service (record { state = next; globals = bits old }) (fault_of app c service)))
IsPerformed want choice old Ends new =
    (new ≡ old) × ((app : Setting) (c : Scene) → deed_of app c want choice ≡ Some (end_of app c))
IsPerformed want choice old (Fails failure) new =
    (new ≡ old) × ((app : Setting) (c : Scene) → deed_of app c want choice ≡ Some (Stops failure None))
IsPerformed want choice old Refused new =
    (new ≡ old) × ((app : Setting) (c : Scene) → deed_of app c want choice ≡ None)
