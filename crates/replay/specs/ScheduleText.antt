-- Schedule texts: which choices the lines of a text spell.
use Rattle.std.specs.Prelude.{◌≡◌, ℕ, ◌+◌, ◌<◌, Bool, List, [], ◌∷◌, ◌++◌, length, Option, Some, None, if◌then◌else◌, slice_get, codes, option_map}
use Rattle.std.specs.Fmt.{signed_decimal}
use Rattle.application.specs.declared.app.App.{App}
use Rattle.application.specs.declared.app.Entity.{Entity}
use Rattle.application.specs.declared.app.Routine.{Routine}
use Rattle.chk_base.specs.declared.place.Place.{Place}
use Rattle.chk_base.specs.declared.word.Width.TheVariants.{W32}
use Rattle.chk_base.specs.Places.{is_line_feed, place_after}
use Rattle.chk_base.specs.Widths.{PlainWord, limit_of, reading_of}
use Rattle.osek_machine.specs.Inputs.{input_at}
use Rattle.osek_machine.specs.Steps.{start_of, step_of}
use Rattle.replay.specs.declared.schedule.ScheduleFault.{ScheduleFault}
use Rattle.replay.specs.declared.schedule.ScheduleFault.TheVariants as fault
use Rattle.replay.specs.declared.value.ValueType.{ValueType}
use Rattle.step_ir.specs.declared.code.CellName.{CellName}
use Rattle.step_ir.specs.declared.code.Code.{Code}
use Rattle.step_ir.specs.declared.event.Choice.{Choice}
use Rattle.step_ir.specs.declared.event.Choice.TheVariants.{Go, GoWith, Arrive}
use Rattle.step_ir.specs.Points.{cells_of}
use Rattle.step_ir.specs.PointStep.{Bits}
use Rattle.step_ir.specs.SchedulerState.{State}

-- these lines with a byte before the first one
abbrev pub onto : ℕ → List (List ℕ) → List (List ℕ)
onto b [] = (b ∷ []) ∷ []
onto b (l ∷ ls) = (b ∷ l) ∷ ls

-- the lines of a text, without the line feed that ends each; the last may have none
abbrev pub lines_of : List ℕ → List (List ℕ)
lines_of [] = []
lines_of (b ∷ bs) = if is_line_feed b then [] ∷ lines_of bs else onto b (lines_of bs)

-- these lines, each with a line feed at its end
abbrev pub ended : List (List ℕ) → List ℕ
ended [] = []
ended (l ∷ ls) = l ++ 10 ∷ ended ls

-- the type of a cell
abbrev pub type_of : CellName → ValueType
type_of name = record { width = name.width; signed = name.signed }

-- the type of the cell with this number
abbrev pub type_in : Code → Option ℕ → Option ValueType
type_in code None = None
type_in code (Some cell) = option_map type_of (slice_get (cells_of code) cell)

-- the type of the input at which the actor stands, if it stands at one
abbrev pub input_type : App → Code → State ℕ Bits → Option ValueType
input_type app code st = type_in code (input_at app code st)

-- a number of decimal digits, with `-` before a negative one, is this word's value by the type of the input; without an input the word has 32 bits, and its value is read in either way
abbrev pub IsValue : Option ValueType → List ℕ → PlainWord → Type 0
IsValue (Some t) digits w = (w.width ≡ t.width) × (digits ≡ signed_decimal (reading_of t.signed w))
IsValue None digits w = (w.width ≡ W32) × ((signed : Bool) × (digits ≡ signed_decimal (reading_of signed w)))

-- a line is this word after these bytes
pub record HasValue (input : Option ValueType) (line : List ℕ) (w : PlainWord) : Type 0 where
  pub digits : List ℕ
  pub parts : line ≡ codes "go " ++ digits
  pub value : IsValue input digits w
  pub fits : w.bits < limit_of w.width

-- a routine has this name
pub record IsNamed (app : App) (name : List ℕ) (r : Entity) : Type 0 where
  pub at : ℕ
  pub routine : Routine
  pub «is» : slice_get app.routines at ≡ Some routine
  pub number : r.0 ≡ length app.tasks + at
  pub same : name ≡ routine.name

-- a line names this routine
pub record HasName (app : App) (line : List ℕ) (r : Entity) : Type 0 where
  pub name : List ℕ
  pub parts : line ≡ codes "arrive " ++ name
  pub named : IsNamed app name r

-- a line spells this choice, where the input has this type
abbrev pub Spells : App → Option ValueType → List ℕ → Choice → Type 0
Spells app input line Go = line ≡ codes "go"
Spells app input line (GoWith w) = HasValue input line w
Spells app input line (Arrive r) = HasName app line r

-- the state that a step leads to, and this one without a step
abbrev pub state_or : {E A : Type 0} → A → Option (E × A) → A
state_or st None = st
state_or st (Some next) = next.1

-- the state after a choice; one that isn't permitted leaves it as it was
abbrev pub after : App → Code → State ℕ Bits → Choice → State ℕ Bits
after app code st choice = state_or st (step_of app code st choice)

-- the state after these choices, in order
abbrev pub after_all : App → Code → State ℕ Bits → List Choice → State ℕ Bits
after_all app code st [] = st
after_all app code st (c ∷ cs) = after_all app code (after app code st c) cs

-- these lines spell these choices from this state on: each line one, in the state after the choices before it
abbrev pub SpellAll : App → Code → State ℕ Bits → List (List ℕ) → List Choice → Type 0
SpellAll app code st [] [] = Unit {0}
SpellAll app code st (l ∷ ls) (c ∷ cs) =
    Spells app (input_type app code st) l c × SpellAll app code (after app code st c) ls cs
SpellAll app code st _ _ = ⊥

-- a text is a schedule of these choices
abbrev pub IsScheduleOf : App → Code → List ℕ → List Choice → Type 0
IsScheduleOf app code text choices = SpellAll app code (start_of app code) (lines_of text) choices

-- a text is a schedule of these choices and of no others
pub record IsOneSchedule (app : App) (code : Code) (text : List ℕ) (choices : List Choice) : Type 0 where
  pub spelled : IsScheduleOf app code text choices
  pub alone : (others : List Choice) → IsScheduleOf app code text others → others ≡ choices

-- the first line of a text that spells no choice begins here, and so the text is no schedule
pub record IsFirstWrong (app : App) (code : Code) (text : List ℕ) (place : Place) : Type 0 where
  pub before : List (List ℕ)
  pub line : List ℕ
  pub rest : List (List ℕ)
  pub parts : lines_of text ≡ before ++ line ∷ rest
  pub begins : place ≡ place_after (ended before)
  pub choices : List Choice
  pub right : SpellAll app code (start_of app code) before choices
  pub wrong : (choice : Choice) → Spells app (input_type app code (after_all app code (start_of app code) choices)) line choice → ⊥
  pub refused : (all : List Choice) → IsScheduleOf app code text all → ⊥

-- why a text isn't read; want of memory has no cause
abbrev pub IsWrong : App → Code → List ℕ → ScheduleFault → Type 0
IsWrong app code text (fault.Line place) = IsFirstWrong app code text place
IsWrong app code text fault.Memory = Unit {0}
