-- The task form, in which the program that is built is proved: no routine, no input, no `Schedule` and no section.
use Rattle.std.specs.Prelude.{◌≡◌, ℕ, ◌+◌, ◌<◌, ◌≤◌, Bool, true, false, ◌&&◌, ◌==◌, nat_le, List, [], ◌∷◌, length, Option, Some, None, slice_get}
use Rattle.std.specs.List.{list_all}
use Rattle.application.specs.declared.app.App.{App}
use Rattle.chk_base.specs.declared.word.Width.TheVariants.{W32}
use Rattle.chk_base.specs.Term.{Term, Const}
use Rattle.chk_base.specs.Widths.{limit_of}
use Rattle.one_stack.specs.PlainCode.{PlainCode}
use Rattle.step_ir.specs.declared.code.Code.{Code}
use Rattle.step_ir.specs.declared.code.EntityCode.{EntityCode}
use Rattle.step_ir.specs.declared.code.Point.{Point}
use Rattle.step_ir.specs.declared.event.Service.{Service}
use Rattle.step_ir.specs.declared.event.Service.TheVariants.{Activate, Terminate, Chain, Get, Release}
use Rattle.step_ir.specs.Fits.{Misses, ReadsBetween}
use Rattle.step_ir.specs.Numbers.{times}
use Rattle.step_ir.specs.Points.{PlainTarget, PlainAction, Read, Write, Local, Branch, Input, Call, Return, Invoke, Assert, End, PlainPoint, plain_action}
use Rattle.step_ir.specs.Setting.{Setting}

-- a service of the form
abbrev pub is_form_service : Service → Bool
is_form_service (Activate t) = true
is_form_service Terminate = true
is_form_service (Chain t) = true
is_form_service (Get r) = true
is_form_service (Release r) = true
is_form_service _ = false

-- an action of the form
abbrev pub is_form_action : PlainAction → Bool
is_form_action (Input cell) = false
is_form_action (Invoke service) = is_form_service service
is_form_action _ = true

-- a point of the form; it has no more nexts than a code may have points
abbrev pub is_form_point : Point → Bool
is_form_point p = is_form_action (plain_action p.action) && nat_le (length p.next) 2048

-- an entity whose points are of the form
abbrev pub is_form_entity : EntityCode → Bool
is_form_entity e = list_all is_form_point e.points

-- an application and a code of the form
abbrev pub is_task_form : App → Code → Bool
is_task_form app code = (length app.routines == 0) && list_all is_form_entity code.entities

-- how many resources an application has, with the scheduler
abbrev pub resource_count : App → ℕ
resource_count app = length app.resources + 1

-- every cell that an expression reads is among the first `low`, and every array in it has an element
abbrev pub Reads : ℕ → Term → Type 0
Reads low t = ReadsBetween 0 low t

-- a point of this number exists
pub record Has (points : List PlainPoint) (n : ℕ) : Type 0 where
  pub point : PlainPoint
  pub is : slice_get points n ≡ Some point

-- nexts lead to points that exist
abbrev pub FitsNexts : ℕ → List PlainPoint → List (Term × ℕ) → Type 0
FitsNexts low points [] = Unit {0}
FitsNexts low points (x ∷ xs) = Reads low x.0 × Has points x.1 × FitsNexts low points xs

-- there is a last next, and it is the constant 1
abbrev pub EndsOne : List (Term × ℕ) → Type 0
EndsOne [] = ⊥
EndsOne (x ∷ []) = x.0 ≡ Const 1
EndsOne (x ∷ y ∷ ys) = EndsOne (y ∷ ys)

-- the entity goes on
abbrev pub FitsGoing : ℕ → List PlainPoint → List (Term × ℕ) → Type 0
FitsGoing low points nexts = FitsNexts low points nexts × EndsOne nexts

-- traps read the code's cells
abbrev pub FitsTerms : ℕ → List (Term × ℕ) → Type 0
FitsTerms low [] = Unit {0}
FitsTerms low (x ∷ xs) = Reads low x.0 × FitsTerms low xs

-- so does an index, if there is one
abbrev pub FitsIndex : ℕ → Option Term → Type 0
FitsIndex low None = Unit {0}
FitsIndex low (Some t) = Reads low t

-- a target is among the code's cells
abbrev pub FitsTarget : ℕ → PlainTarget → Type 0
FitsTarget low t = (1 ≤ t.len) × (t.base + t.len ≤ low) × FitsIndex low t.index

-- so are the cells that are set, each once
abbrev pub FitsSets : ℕ → List (ℕ × Term) → Type 0
FitsSets low [] = Unit {0}
FitsSets low (s ∷ ss) = (s.0 < low) × Reads low s.1 × Misses s.0 ss × FitsSets low ss

-- and that of a return
abbrev pub FitsSet : ℕ → Option (ℕ × Term) → Type 0
FitsSet low None = Unit {0}
FitsSet low (Some s) = (s.0 < low) × Reads low s.1

-- a service names a task, or one of the first resources
abbrev pub FitsService : Setting → ℕ → ℕ → List PlainPoint → List (Term × ℕ) → Service → Type 0
FitsService app resources low points nexts (Activate t) = (app.is_task t.0 ≡ true) × FitsGoing low points nexts
FitsService app resources low points nexts Terminate = Unit {0}
FitsService app resources low points nexts (Chain t) = app.is_task t.0 ≡ true
FitsService app resources low points nexts (Get r) = (r < resources) × FitsGoing low points nexts
FitsService app resources low points nexts (Release r) = FitsGoing low points nexts
FitsService app resources low points nexts _ = ⊥

-- an action of the form is over the code's cells; a read takes a cell of 32 bits
abbrev pub FitsAction : Setting → ℕ → PlainCode → List PlainPoint → List (Term × ℕ) → PlainAction → Type 0
FitsAction app resources code points nexts (Read t into) =
    FitsTarget code.cells t × ((into < code.cells) × (code.width into ≡ W32)) × FitsGoing code.cells points nexts
FitsAction app resources code points nexts (Write t v) =
    FitsTarget code.cells t × Reads code.cells v × FitsGoing code.cells points nexts
FitsAction app resources code points nexts (Local q v) =
    (q < code.cells) × Reads code.cells v × FitsGoing code.cells points nexts
FitsAction app resources code points nexts (Branch v) = Reads code.cells v × FitsGoing code.cells points nexts
FitsAction app resources code points nexts (Input q) = ⊥
FitsAction app resources code points nexts (Call f sets) = FitsSets code.cells sets × FitsGoing code.cells points nexts
FitsAction app resources code points nexts (Return s) = FitsSet code.cells s × FitsGoing code.cells points nexts
FitsAction app resources code points nexts (Invoke s) = FitsService app resources code.cells points nexts s
FitsAction app resources code points nexts (Assert v) = Reads code.cells v × FitsGoing code.cells points nexts
FitsAction app resources code points nexts End = Unit {0}

-- a point of the form, among these points
pub record FitsPoint (app : Setting) (resources : ℕ) (code : PlainCode) (points : List PlainPoint) (p : PlainPoint) : Type 0 where
  pub traps : FitsTerms code.cells p.traps
  pub action : FitsAction app resources code points p.nexts p.action

-- a setting and a plain code of the task form
pub record IsTaskForm (app : Setting) (resources : ℕ) (code : PlainCode) : Type 0 where
  -- no task is above the run level of one that isn't preemptive
  pub non_preemptive : (e t : ℕ) → app.is_task e ≡ true → app.is_preemptive e ≡ false → app.is_task t ≡ true → app.level t ≤ app.run_level e
  pub routines : (e : ℕ) → app.is_routine e ≡ false
  pub begins : (e : ℕ) → app.is_task e ≡ true → Has (code.points e) 0
  pub points : (e at : ℕ) (p : PlainPoint) → slice_get (code.points e) at ≡ Some p → FitsPoint app resources code (code.points e) p
  -- no other number has points
  pub entities : (e at : ℕ) (p : PlainPoint) → slice_get (code.points e) at ≡ Some p → e < app.entities
  pub starts : (q : ℕ) → q < code.cells → code.start q < limit_of (code.width q)

-- tasks are numbered from 0, and each may have from 1 to 8 requests at once
pub record IsNumbered (app : Setting) : Type 0 where
  pub tasks : (t : ℕ) → app.is_task t ≡ true → t < app.entities
  pub all : (t : ℕ) → t < app.entities → app.is_task t ≡ true
  pub few : app.entities ≤ 16
  pub limits : (t : ℕ) → app.limit t ≤ 8
  pub some : (t : ℕ) → t < app.entities → 1 ≤ app.limit t
  pub once : (t : ℕ) → times t app.autostart ≤ 1
