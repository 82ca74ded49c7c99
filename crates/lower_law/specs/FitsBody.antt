-- What holds of the numbers and types in a typed body, at its place among the cells.
use Rattle.std.specs.Prelude.{◌≡◌, ℕ, zero, suc, ◌+◌, ◌<◌, ◌≤◌, Bool, true, false, ◌||◌, if◌then◌else◌, ◌==◌, nat_lt, length, List, [], ◌∷◌, Option, Some, None, IsTrue}
use Rattle.chk_base.specs.declared.word.Width.{Width}
use Rattle.lower_law.specs.Typed.{CType, CellExpr, Number, Local, Global, Element, Binary, Unary, Conjunction, Disjunction, Conditional, Converted}
use Rattle.lower_law.specs.Items.{sites_all}
use Rattle.lower_law.specs.Statements.{CellStatement, Set, Write, WriteAt, If, Loop, Assert, Input, Call, Return, Serve, Block, CellBlock, Nil, Cons, CellFunction, CellUnit, asked, asked_if, questions, room, room_all, rooms_to}

-- the first cells are the globals
module _ (width : ℕ → Width) (globals : ℕ) (known : ℕ → Bool) where
  -- the locals that it reads are known, and its globals have the widths of their cells
  abbrev pub FitsEx : CellExpr → Type 0
  FitsEx (Number n) = Unit {0}
  FitsEx (Local at t) = IsTrue (known at)
  FitsEx (Global cell t) = (width cell ≡ t.width) × (cell < globals)
  FitsEx (Element cell len t i) = ((k : ℕ) → k < len → (width (cell + k) ≡ t.width) × (cell + k < globals)) × FitsEx i
  FitsEx (Binary op s a b) = FitsEx a × FitsEx b
  FitsEx (Unary op s a) = FitsEx a
  FitsEx (Conjunction a b) = FitsEx a × FitsEx b
  FitsEx (Disjunction a b) = FitsEx a × FitsEx b
  FitsEx (Conditional c a b) = FitsEx c × FitsEx a × FitsEx b
  FitsEx (Converted t a) = FitsEx a

  -- so it is for the expressions of one thing
  abbrev pub FitsAll : List (Option ℕ × CellExpr) → Type 0
  FitsAll [] = Unit {0}
  FitsAll (q ∷ qs) = FitsEx q.1 × FitsAll qs

-- this local has been set, too
abbrev pub learn : (ℕ → Bool) → ℕ → ℕ → Bool
learn known at i = (i == at) || known i

abbrev pub learn_into : (ℕ → Bool) → Option (ℕ × CType) → ℕ → Bool
learn_into known None = known
learn_into known (Some a) = learn known a.0

-- the locals that are set after a statement
abbrev pub known_after : (ℕ → Bool) → CellStatement → ℕ → Bool
known_after known (Set p at t e) = learn known at
known_after known (Input p at t) = learn known at
known_after known (Call p f args into) = learn_into known into
known_after known _ = known

abbrev pub is_return : CellStatement → Bool
is_return (Return p e) = true
is_return _ = false

abbrev pub is_block : CellStatement → Bool
is_block (Block b) = true
is_block _ = false

abbrev pub is_nil : CellBlock → Bool
is_nil Nil = true
is_nil (Cons s b) = false

-- the last statement is a return
abbrev pub ends_in_return : CellBlock → Bool
ends_in_return Nil = false
ends_in_return (Cons s b) = if is_nil b then is_return s else ends_in_return b

-- the local that takes a result is one of the body's, of the width of its cell
abbrev pub FitsInto : (ℕ → Width) → ℕ → ℕ → Option (ℕ × CType) → Type 0
FitsInto width base locals None = Unit {0}
FitsInto width base locals (Some a) = (a.0 < locals) × (width (base + a.0) ≡ a.1.width)

-- a return has a value exactly where the body gives one
abbrev pub Given : Bool → Option CellExpr → Type 0
Given true (Some e) = Unit {0}
Given false None = Unit {0}
Given _ _ = ⊥

-- only a result can be taken
abbrev pub Takes : Bool → Option (ℕ × CType) → Type 0
Takes false (Some a) = ⊥
Takes _ _ = Unit {0}

-- base and locals: the body's first cell and their number; the values read have the cells from temp up to top
module _ (width : ℕ → Width) (globals temp top : ℕ) (rooms : ℕ → ℕ) (FitsCall : ℕ → ℕ → List CellExpr → Option (ℕ × CType) → Type 0) (base locals : ℕ) (gives : Bool) where
  abbrev mutual
    -- a statement fits where these locals are known and the cells of its calls begin at `cell`
    pub FitsSt : (ℕ → Bool) → ℕ → CellStatement → Type 0
    FitsSt known cell (Set p at t e) = FitsEx width globals known e × (at < locals) × (width (base + at) ≡ t.width)
    FitsSt known cell (Write p c t e) = FitsEx width globals known e × (width c ≡ t.width) × (c < globals)
    FitsSt known cell (WriteAt p c len t i e) =
        FitsEx width globals known i × FitsEx width globals known e × ((k : ℕ) → k < len → (width (c + k) ≡ t.width) × (c + k < globals))
    FitsSt known cell (If p c a b) = FitsEx width globals known c × FitsBl known cell a × FitsBl known (cell + room_all rooms a) b
    FitsSt known cell (Loop p c x b) = FitsEx width globals known c × FitsBl known cell x × FitsBl known (cell + room_all rooms x) b
    FitsSt known cell (Assert p e) = FitsEx width globals known e
    FitsSt known cell (Input p at t) = (at < locals) × (width (base + at) ≡ t.width)
    FitsSt known cell (Call p f args into) =
        FitsAll width globals known (asked args) × FitsCall f cell args into × FitsInto width base locals into
    FitsSt known cell (Return p e) = FitsAll width globals known (asked_if e) × Given gives e
    FitsSt known cell (Serve p s) = Unit {0}
    FitsSt known cell (Block b) = FitsBl known cell b

    -- the cells of calls lie behind the locals
    pub FitsBl : (ℕ → Bool) → ℕ → CellBlock → Type 0
    FitsBl known cell Nil = Unit {0}
    FitsBl known cell (Cons s b) =
        FitsSt known cell s × (temp + sites_all (questions s) ≤ top) × (base + locals ≤ cell) × FitsBl (known_after known s) (cell + room rooms s) b

-- a body with a result ends in a return
abbrev pub EndsWell : Bool → CellBlock → Type 0
EndsWell true b = IsTrue (ends_in_return b)
EndsWell false b = Unit {0}

-- the cells from this one on have the widths of the types
abbrev pub HaveWidths : (ℕ → Width) → ℕ → List CType → Type 0
HaveWidths width cell [] = Unit {0}
HaveWidths width cell (t ∷ ts) = (width cell ≡ t.width) × HaveWidths width (cell + 1) ts

-- a body whose first cell is this fits
pub record FitsFun (width : ℕ → Width) (globals temp top : ℕ) (rooms : ℕ → ℕ) (FitsCall : ℕ → ℕ → List CellExpr → Option (ℕ × CType) → Type 0) (f : CellFunction) (base : ℕ) : Type 0 where
  pub body : FitsBl width globals temp top rooms FitsCall base f.locals f.gives (λ i. nat_lt i (length f.params)) (base + f.locals) f.body
  pub params : HaveWidths width base f.params
  pub few : length f.params ≤ f.locals
  pub low : globals ≤ base
  pub high : base + f.locals ≤ temp
  pub ends : EndsWell f.gives f.body

-- a call fits where calls nest less than so deep
abbrev pub FitsTo : (ℕ → Width) → ℕ → ℕ → ℕ → CellUnit → ℕ → ℕ → ℕ → List CellExpr → Option (ℕ × CType) → Type 0
FitsTo width globals temp top unit zero f cell args into = ⊥
FitsTo width globals temp top unit (suc d) f cell args into =
    FitsFun width globals temp top (rooms_to unit d) (FitsTo width globals temp top unit d) (unit.fun f) cell × (length args ≡ length (unit.fun f).params) × Takes (unit.fun f).gives into
