-- Codes that fit an application: what their points name exists and is of the kind that is needed.
use Rattle.std.specs.Prelude.{◌≡◌, ◌≢◌, ℕ, ◌+◌, ◌<◌, ◌≤◌, Bool, true, false, List, [], ◌∷◌, length, Option, Some, None, slice_get}
use Rattle.application.specs.declared.app.App.{App}
use Rattle.application.specs.InOrder.{IsResource}
use Rattle.chk_base.specs.declared.word.Width.TheVariants.{W32}
use Rattle.chk_base.specs.Term.{Term, Const, Cell, Pick, Un, Bin, Choose}
use Rattle.chk_base.specs.Widths.{bits_of, limit_of}
use Rattle.step_ir.specs.declared.code.CellName.{CellName}
use Rattle.step_ir.specs.declared.code.Code.{Code}
use Rattle.step_ir.specs.declared.code.EntityCode.{EntityCode}
use Rattle.step_ir.specs.declared.event.Service.{Service}
use Rattle.step_ir.specs.declared.event.Service.TheVariants.{Activate, Terminate, Chain, Get, Release}
use Rattle.step_ir.specs.Points.{PlainTarget, PlainAction, Read, Write, Local, Branch, Input, Call, Return, Invoke, Assert, End, PlainPoint, points_in, cells_of, first_cell, width_in, start_bits}

-- every cell that an expression reads is one of those from `low` on and below `high`, and every array in it has an element
abbrev pub ReadsBetween : ℕ → ℕ → Term → Type 0
ReadsBetween low high (Const n) = Unit {0}
ReadsBetween low high (Cell at s) = (low ≤ at) × (at < high)
ReadsBetween low high (Pick base len s index) =
    (1 ≤ len) × (low ≤ base) × (base + len ≤ high) × ReadsBetween low high index
ReadsBetween low high (Un op a) = ReadsBetween low high a
ReadsBetween low high (Bin op a b) = ReadsBetween low high a × ReadsBetween low high b
ReadsBetween low high (Choose c a b) = ReadsBetween low high c × ReadsBetween low high a × ReadsBetween low high b

-- no set is of this cell
abbrev pub Misses : ℕ → List (ℕ × Term) → Type 0
Misses cell [] = Unit {0}
Misses cell (s ∷ ss) = (s.0 ≢ cell) × Misses cell ss

-- the last item is the constant 1, if there is one
abbrev pub EndsInOne : List (Term × ℕ) → Type 0
EndsInOne [] = Unit {0}
EndsInOne (x ∷ []) = x.0 ≡ Const 1
EndsInOne (x ∷ y ∷ ys) = EndsInOne (y ∷ ys)

-- after this action the entity doesn't go on
abbrev pub is_last : PlainAction → Bool
is_last (Invoke Terminate) = true
is_last (Invoke (Chain t)) = true
is_last End = true
is_last _ = false

-- the task or resource that a service names is one of the application's
abbrev pub IsServiceFit : App → Service → Type 0
IsServiceFit app (Activate t) = t.0 < length app.tasks
IsServiceFit app (Chain t) = t.0 < length app.tasks
IsServiceFit app (Get r) = IsResource app r
IsServiceFit app (Release r) = IsResource app r
IsServiceFit app _ = Unit {0}

-- how many points there are
abbrev pub point_count : List EntityCode → ℕ
point_count [] = 0
point_count (e ∷ es) = length e.points + point_count es

-- how many bits these cells have
abbrev pub bit_count : List CellName → ℕ
bit_count [] = 0
bit_count (c ∷ cs) = bits_of c.width + bit_count cs

module _ (code : Code) (e : ℕ) where
  -- a cell is one of the entity's own
  pub record IsOwn (cell : ℕ) : Type 0 where
    pub from : first_cell code e ≤ cell
    pub below : cell < first_cell code (e + 1)

  -- so is every cell that an expression reads
  abbrev pub ReadsOwn : Term → Type 0
  ReadsOwn t = ReadsBetween (first_cell code e) (first_cell code (e + 1)) t

  -- the index of a target, if there is one, reads the entity's own cells
  abbrev pub IsIndexFit : Option Term → Type 0
  IsIndexFit None = Unit {0}
  IsIndexFit (Some t) = ReadsOwn t

  -- a target names globals
  pub record IsTargetFit (t : PlainTarget) : Type 0 where
    pub some : 1 ≤ t.len
    pub globals : t.base + t.len ≤ length code.globals
    pub index : IsIndexFit t.index

  -- a set is of one of the entity's cells
  pub record IsSetFit (s : ℕ × Term) : Type 0 where
    pub cell : IsOwn s.0
    pub value : ReadsOwn s.1

  -- so are the sets of a call, which are of distinct cells
  abbrev pub AreSetsFit : List (ℕ × Term) → Type 0
  AreSetsFit [] = Unit {0}
  AreSetsFit (s ∷ ss) = IsSetFit s × Misses s.0 ss × AreSetsFit ss

  -- the set of a return, if there is one
  abbrev pub IsReturnFit : Option (ℕ × Term) → Type 0
  IsReturnFit None = Unit {0}
  IsReturnFit (Some s) = IsSetFit s

  -- what an action names exists; a read takes a cell of 32 bits, and every other width agrees since a value is cut to it
  abbrev pub IsActionFit : App → PlainAction → Type 0
  IsActionFit app (Read t into) = IsTargetFit t × IsOwn into × (width_in code into ≡ W32)
  IsActionFit app (Write t term) = IsTargetFit t × ReadsOwn term
  IsActionFit app (Local cell term) = IsOwn cell × ReadsOwn term
  IsActionFit app (Branch term) = ReadsOwn term
  IsActionFit app (Input cell) = IsOwn cell
  IsActionFit app (Call f sets) = (f < length code.functions) × AreSetsFit sets
  IsActionFit app (Return set) = IsReturnFit set
  IsActionFit app (Invoke service) = IsServiceFit app service
  IsActionFit app (Assert term) = ReadsOwn term
  IsActionFit app End = Unit {0}

  -- traps have failure numbers from 3 to 6
  abbrev pub AreTrapsFit : List (Term × ℕ) → Type 0
  AreTrapsFit [] = Unit {0}
  AreTrapsFit (x ∷ xs) = ReadsOwn x.0 × (3 ≤ x.1) × (x.1 ≤ 6) × AreTrapsFit xs

  -- nexts are points of the entity
  abbrev pub AreNextsFit : List (Term × ℕ) → Type 0
  AreNextsFit [] = Unit {0}
  AreNextsFit (x ∷ xs) = ReadsOwn x.0 × (x.1 < length (points_in code e)) × AreNextsFit xs

-- a point of an entity fits
pub record IsPointFit (app : App) (code : Code) (e : ℕ) (p : PlainPoint) : Type 0 where
  pub action : IsActionFit code e app p.action
  pub traps : AreTrapsFit code e p.traps
  pub nexts : AreNextsFit code e p.nexts
  pub goes_on : is_last p.action ≡ false → 1 ≤ length p.nexts
  pub ends_in_one : EndsInOne p.nexts

-- a code fits an application
pub record Fits (app : App) (code : Code) : Type 0 where
  -- the entities are the application's, in the order of their numbers, and each has a point
  pub entities : length code.entities ≡ length app.tasks + length app.routines
  pub begins : (e : ℕ) → e < length code.entities → 1 ≤ length (points_in code e)
  pub points : (e at : ℕ) (p : PlainPoint) → slice_get (points_in code e) at ≡ Some p → IsPointFit app code e p
  -- each cell starts with a word of its width
  pub starts : (cell : ℕ) → cell < length (cells_of code) → start_bits code cell < limit_of (width_in code cell)
  pub few_points : point_count code.entities ≤ 2048
  pub few_bits : bit_count (cells_of code) ≤ 8192
