-- Lowering is exact: an entity takes the same steps over the typed unit and over its points.
use Rattle.std.specs.Prelude.{◌≡◌, ℕ, zero, suc, ◌+◌, ◌<◌, ◌≤◌, false, ◌==◌, if◌then◌else◌, slice_get, List, [], ◌∷◌, Option, Some, None}
use Rattle.chk_base.specs.declared.word.Width.{Width}
use Rattle.chk_base.specs.Widths.{PlainWord}
use Rattle.step_ir.specs.EntityStep.{After, Want, Does, Inputs, Calls, Ends, Fails, InputFails, Behaviour}
use Rattle.step_ir.specs.Points.{PlainPoint}
use Rattle.step_ir.specs.PointStep.{Program, Bits, val, first, or_zero, of_points}
use Rattle.lower_law.specs.Statements.{CellUnit, no_body, rooms_to}
use Rattle.lower_law.specs.EntityStep.{of_unit}
use Rattle.lower_law.specs.Lowered.{points_of_entity, entry_of_entity}
use Rattle.lower_law.specs.FitsBody.{FitsFun, FitsTo}
use Rattle.step_ir.specs.declared.event.Choice.{Choice}
use Rattle.step_ir.specs.PermittedSchedule.{events_from}
use Rattle.step_ir.specs.SchedulerStep.{start}
use Rattle.step_ir.specs.Setting.{Setting}

-- two entities want the same, and what follows is alike
abbrev pub SameWant : {S T G : Type 0} → (After S G → After T G → Type 0) → Want S G → Want T G → Type 0
SameWant R (Does a x) (Does b y) = (a ≡ b) × R x y
SameWant R (Inputs v f x) (Inputs w g y) = (v ≡ w) × ((word : PlainWord) → (f word ≡ g word) × R (x word) (y word))
SameWant R (Calls s x) (Calls t y) = (s ≡ t) × R x y
SameWant R Ends Ends = Unit {0}
SameWant R (Fails f) (Fails g) = f ≡ g
SameWant R (InputFails v f) (InputFails w g) = (v ≡ w) × (f ≡ g)
SameWant R _ _ = ⊥

-- how many globals there are, and each entity's cells: the locals from first on, the values read from temp on, up to top
pub record Layout : Type 0 where
  pub globals : ℕ
  pub first : ℕ → ℕ
  pub temp : ℕ → ℕ
  pub top : ℕ → ℕ

-- the globals are the first cells
pub record SharesGlobals (globals : ℕ) (g bits : Bits) : Type 0 where
  pub at : (i : ℕ) → i < globals → g i ≡ bits i

-- the entity's own cells are as they were
pub record KeepsOwn (lay : Layout) (e : ℕ) (bits bits' : Bits) : Type 0 where
  pub at : (i : ℕ) → lay.first e ≤ i → i < lay.top e → bits' i ≡ bits i

-- the cells of other entities are as they were
pub record KeepsOthers (lay : Layout) (e : ℕ) (bits bits' : Bits) : Type 0 where
  pub below : (i : ℕ) → lay.globals ≤ i → i < lay.first e → bits' i ≡ bits i
  pub above : (i : ℕ) → lay.top e ≤ i → bits' i ≡ bits i

module _ {S T : Type 0} (lay : Layout) (typed : Behaviour S Bits) (code : Behaviour T Bits) (e : ℕ) where
  -- for n steps, whatever others do to the globals and to their cells in between
  abbrev pub AreSameFor : ℕ → S → T → Bits → Type 0
  AreSameFor zero s t bits = Unit {0}
  AreSameFor (suc n) s t bits =
      (g bits' : Bits) → SharesGlobals lay.globals g bits' → KeepsOwn lay e bits bits'
      → (typed.place e s ≡ code.place e t)
      × SameWant (λ x y. AreSameFor n x.state y.state y.globals × SharesGlobals lay.globals x.globals y.globals × KeepsOthers lay e bits' y.globals) (typed.wants e s g) (code.wants e t bits')

-- the points of an entity stand under their numbers
abbrev pub StandsAs : (ℕ → ℕ) → (ℕ → Option PlainPoint) → ℕ → List PlainPoint → Type 0
StandsAs number code at [] = Unit {0}
StandsAs number code at (p ∷ ps) = (code (number at) ≡ Some p) × StandsAs number code (at + 1) ps

-- the code that lowering gives for an entity; it starts at its point 0
pub record IsLowered (unit : CellUnit) (depth : ℕ) (lay : Layout) (code : Program) (number : ℕ → ℕ) (e : ℕ) : Type 0 where
  pub fits : FitsFun code.width lay.globals (lay.temp e) (lay.top e) (rooms_to unit depth) (FitsTo code.width lay.globals (lay.temp e) (lay.top e) unit depth) (unit.entity e) (lay.first e)
  pub plain : (unit.entity e).params ≡ []
  pub room : lay.temp e ≤ lay.top e
  pub points : StandsAs number (code.point e) 0 (points_of_entity number (lay.temp e) unit depth (lay.first e) (unit.entity e))
  pub void : (unit.entity e).gives ≡ false
  -- the first point that runs, which is the same whatever the cells hold
  pub starts : or_zero (first (val code.width (λ i. 0)) (entry_of_entity number (lay.temp e) unit depth (lay.first e) (unit.entity e))) ≡ 0

-- the same steps with the same events, one for one, from any cells
abbrev pub IsExact : CellUnit → ℕ → Layout → Program → ℕ → Type 0
IsExact unit depth lay code e =
    (n : ℕ) (bits : Bits) → AreSameFor lay (of_unit unit depth lay.first) (of_points code) e n ((of_unit unit depth lay.first).start e) ((of_points code).start e) bits

-- the position of the first point that runs
abbrev pub first_position : CellUnit → ℕ → Layout → (ℕ → Width) → ℕ → ℕ
first_position unit depth lay width e =
    or_zero (first (val width (λ i. 0)) (entry_of_entity (λ i. i) (lay.temp e) unit depth (lay.first e) (unit.entity e)))

-- z and 0 change places
abbrev pub exchanged : ℕ → ℕ → ℕ
exchanged z i = if i == z then 0 else (if i == 0 then z else i)

-- the code of a unit: the points of each entity, of which the first that runs and point 0 change places
abbrev pub lowered : CellUnit → ℕ → Layout → (ℕ → Width) → Program
lowered unit depth lay width =
    record {
      width = width;
      point = λ e k.
          let number = exchanged (first_position unit depth lay width e) in
          slice_get (points_of_entity number (lay.temp e) unit depth (lay.first e) (unit.entity e)) (number k);
    }

-- an entity's body at its place among the cells
pub record FitsEntity (unit : CellUnit) (depth : ℕ) (lay : Layout) (width : ℕ → Width) (e : ℕ) : Type 0 where
  pub fits : FitsFun width lay.globals (lay.temp e) (lay.top e) (rooms_to unit depth) (FitsTo width lay.globals (lay.temp e) (lay.top e) unit depth) (unit.entity e) (lay.first e)
  pub plain : (unit.entity e).params ≡ []
  pub room : lay.temp e ≤ lay.top e
  pub void : (unit.entity e).gives ≡ false

-- a program over which the entities below n are lowered, each with cells of its own behind the globals and in their order, and all others do nothing
pub record AreLowered (unit : CellUnit) (depth : ℕ) (lay : Layout) (code : Program) (number : ℕ → ℕ → ℕ) (n : ℕ) : Type 0 where
  pub lowered : (e : ℕ) → e < n → IsLowered unit depth lay code (number e) e
  pub apart : (e d : ℕ) → e < d → d < n → lay.top e ≤ lay.first d
  pub idle : (e : ℕ) → n ≤ e → (unit.entity e ≡ no_body) × (code.point e 0 ≡ None)

-- over both, whatever the application is, the standard's scheduler has the same events for the same choices
pub record HasSameEvents {S T : Type 0} (globals : ℕ) (typed : Behaviour S Bits) (code : Behaviour T Bits) : Type 0 where
  pub events : (app : Setting) (g bits : Bits) → SharesGlobals globals g bits → (choices : List Choice) → events_from app typed choices (start app typed g) ≡ events_from app code choices (start app code bits)
