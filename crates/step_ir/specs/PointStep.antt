-- The step of a point, and what the entities of a code do.
use Rattle.std.specs.Prelude.{ℕ, ◌+◌, ◌%◌, Bool, if◌then◌else◌, nat_lt, List, [], ◌∷◌, Option, Some, None, slice_get}
use Rattle.chk_base.specs.declared.place.Place.{Place}
use Rattle.chk_base.specs.declared.word.Width.{Width}
use Rattle.chk_base.specs.Operators.{truth}
use Rattle.chk_base.specs.Term.{Term}
use Rattle.chk_base.specs.Widths.{PlainWord, limit_of}
use Rattle.chk_base.specs.WordValue.{value}
use Rattle.step_ir.specs.declared.code.Code.{Code}
use Rattle.step_ir.specs.declared.event.EventAction.TheVariants as Told
use Rattle.step_ir.specs.declared.event.Failure.{Failure}
use Rattle.step_ir.specs.EntityStep.{After, Want, Does, Inputs, Calls, Ends, Fails, InputFails, Behaviour}
use Rattle.step_ir.specs.Numbers.{put}
use Rattle.step_ir.specs.Points.{PlainTarget, PlainAction, Read, Write, Local, Branch, Input, Call, Return, Invoke, Assert, End, PlainPoint, points_in, width_in}
use Rattle.step_ir.specs.Services.{fault}

-- the bits of each cell
abbrev pub Bits : Type 0
Bits = ℕ → ℕ

-- the words of cells of these widths
abbrev pub words : (ℕ → Width) → Bits → ℕ → PlainWord
words width bits i = record { width = width i; bits = bits i }

-- the value of an expression over these cells
abbrev pub val : (ℕ → Width) → Bits → Term → ℕ
val width bits t = value t (words width bits)

-- the first item whose expression isn't 0
abbrev pub first : (Term → ℕ) → List (Term × ℕ) → Option ℕ
first v [] = None
first v (x ∷ xs) = if truth (v x.0) then Some x.1 else first v xs

-- that number, or else 0
abbrev pub or_zero : Option ℕ → ℕ
or_zero None = 0
or_zero (Some n) = n

-- a value that is put into a cell is cut to its width
abbrev pub stored : (ℕ → Width) → ℕ → ℕ → PlainWord
stored width cell n = record { width = width cell; bits = n % limit_of (width cell) }

-- the place in an array that an index gives; without one it is 0
abbrev pub place_in : (Term → ℕ) → Option Term → ℕ
place_in v None = 0
place_in v (Some t) = v t

-- the cell at a place in an array, and its first one for a place outside
abbrev pub cell_at : ℕ → ℕ → ℕ → ℕ
cell_at base len i = if nat_lt i len then base + i else base

-- the cell of a target
abbrev pub cell_of : (Term → ℕ) → PlainTarget → ℕ
cell_of v t = cell_at t.base t.len (place_in v t.index)

-- the place of a target is in the array
abbrev pub inside : (Term → ℕ) → PlainTarget → Bool
inside v t = nat_lt (place_in v t.index) t.len

-- each cell is set to its value, all values being taken before
abbrev pub set_all : (ℕ → Width) → (Term → ℕ) → List (ℕ × Term) → Bits → Bits
set_all width v [] bits = bits
set_all width v (s ∷ ss) bits = set_all width v ss (put bits s.0 (stored width s.0 (v s.1)).bits)

module _ (width : ℕ → Width) where
  -- the entity goes on at the first next, over these cells
  abbrev pub go_on : List (Term × ℕ) → Bits → After ℕ Bits
  go_on nexts bits = record { state = or_zero (first (val width bits) nexts); globals = bits }

  -- an action that is done, with its values. A place outside an array is no step of a lowered text: a read gives 0, and a write sets nothing
  abbrev pub act : PlainAction → List (Term × ℕ) → Bits → Want ℕ Bits
  act (Read t into) nexts bits =
      let cell = cell_of (val width bits) t in
      let b = (if inside (val width bits) t then bits cell else 0) in
      Does (Told.Read cell (record { width = width cell; bits = b })) (go_on nexts (put bits into b))
  act (Write t term) nexts bits =
      let cell = cell_of (val width bits) t in
      let w = stored width cell (val width bits term) in
      Does (Told.Write cell w) (go_on nexts (if inside (val width bits) t then put bits cell w.bits else bits))
  act (Local cell term) nexts bits =
      let w = stored width cell (val width bits term) in
      Does (Told.Local cell w) (go_on nexts (put bits cell w.bits))
  act (Branch term) nexts bits = Does (Told.Branch (truth (val width bits term))) (go_on nexts bits)
  act (Input cell) nexts bits = Inputs (width cell) (Told.Input cell) (λ w. go_on nexts (put bits cell w.bits))
  act (Call f sets) nexts bits = Does (Told.Call f) (go_on nexts (set_all width (val width bits) sets bits))
  act (Return None) nexts bits = Does (Told.Return None) (go_on nexts bits)
  act (Return (Some s)) nexts bits =
      let w = stored width s.0 (val width bits s.1) in
      Does (Told.Return (Some (s.0, w))) (go_on nexts (put bits s.0 w.bits))
  act (Invoke service) nexts bits = Calls service (go_on nexts bits)
  act (Assert term) nexts bits =
      if truth (val width bits term) then Does Told.Assert (go_on nexts bits) else Fails (fault 1)
  act End nexts bits = Ends

  -- a trap's failure; at an input it takes the word too
  abbrev pub fails : PlainAction → Failure → Want ℕ Bits
  fails (Input cell) failure = InputFails (width cell) failure
  fails _ failure = Fails failure

  -- the failure of the trap that counts, or else the action
  abbrev pub unless : Option ℕ → PlainPoint → Bits → Want ℕ Bits
  unless None p bits = act p.action p.nexts bits
  unless (Some n) p bits = fails p.action (fault n)

  -- the step of a point: the first trap that isn't 0 is the failure, and else the action is done; where there is no point the body has ended
  abbrev pub step : Option PlainPoint → Bits → Want ℕ Bits
  step None bits = Ends
  step (Some p) bits = unless (first (val width bits) p.traps) p bits

-- the place of no point
abbrev pub nowhere : Place
nowhere = record { line = 0; column = 0; offset = 0 }

-- the place of a point
abbrev pub place_at : Option PlainPoint → Place
place_at None = nowhere
place_at (Some p) = p.place

-- the points of each entity, and the width of each cell
pub record Program : Type 0 where
  pub width : ℕ → Width
  pub point : ℕ → ℕ → Option PlainPoint

-- what the entities of a program do: each starts at its point 0, and finds the cells as they are
abbrev pub of_points : Program → Behaviour ℕ Bits
of_points program =
    record {
      start = λ e. 0;
      wants = λ e at bits. step program.width (program.point e at) bits;
      place = λ e at. place_at (program.point e at);
    }

-- the program that a code is
abbrev pub program_of : Code → Program
program_of code = record { width = width_in code; point = λ e at. slice_get (points_in code e) at }

-- what the entities of a code do
abbrev pub behaviour_of : Code → Behaviour ℕ Bits
behaviour_of code = of_points (program_of code)
