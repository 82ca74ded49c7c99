-- Guarded programs, as plain data, and their runs.
use Rattle.std.specs.Prelude.{◌≡◌, ℕ, ◌%◌, Bool, true, false, if◌then◌else◌, ◌==◌, nat_lt, nat_le, List, [], ◌∷◌, length, reverse, Option, Some, None, unwrap_or}
use Rattle.chk_base.specs.Widths.{limit_of}
use Rattle.chk_base.specs.Operators.{truth}
use Rattle.chk_base.specs.Term.{Term}
use Rattle.chk_base.specs.WordValue.{value}
use Rattle.chk_base.specs.declared.word.Width.{Width}
use Rattle.guard_prog.specs.declared.draft.Control.{Control}
use Rattle.guard_prog.specs.declared.draft.Control.TheVariants.{Goto, Push, Pop, PopPush, Fail}

-- an alternative of a point: its label, its guard, the cells that it sets with their expressions, what it does to the stack,
-- and the width of its input if it takes one
pub record PlainAlternative : Type 0 where
  pub label : ℕ
  pub guard : Term
  pub sets : List (ℕ × Term)
  pub control : Control
  pub input : Option Width

-- a guarded program: the width and the start value of each cell, the stack at the start with the bottom first,
-- the alternatives of each point, and the greatest number of points above the bottom
pub record Program : Type 0 where
  pub width : ℕ → Width
  pub starts : ℕ → ℕ
  pub first : List ℕ
  pub points : ℕ → List PlainAlternative
  pub depth : ℕ

-- a state: the value of each cell, the stack of points with the top first, and whether a failure has come
pub record State : Type 0 where
  pub cells : ℕ → ℕ
  pub stack : List ℕ
  pub is_failed : Bool

-- the value of an expression where cells of these widths have these values
abbrev pub value_in : (ℕ → Width) → (ℕ → ℕ) → Term → ℕ
value_in width cells term = value term (λ q. record { width = width q; bits = cells q })

-- the alternatives whose guard isn't 0
abbrev pub enabled_of : (ℕ → Width) → (ℕ → ℕ) → List PlainAlternative → List PlainAlternative
enabled_of width cells [] = []
enabled_of width cells (a ∷ others) =
    if truth (value_in width cells a.guard) then a ∷ enabled_of width cells others else enabled_of width cells others

-- the alternative with this label, if there is one; labels of one point are distinct
abbrev pub alternative_with : ℕ → List PlainAlternative → Option PlainAlternative
alternative_with label [] = None
alternative_with label (a ∷ others) = if a.label == label then Some a else alternative_with label others

-- the value that these sets give to a cell, modulo its width, if one of them names it
abbrev pub value_set : (ℕ → Width) → (ℕ → ℕ) → List (ℕ × Term) → ℕ → Option ℕ
value_set width cells [] q = None
value_set width cells (s ∷ others) q =
    if s.0 == q then Some (value_in width cells s.1 % limit_of (width q)) else value_set width cells others q

-- the value of a cell after the sets, which are simultaneous: each value is taken over the old cells
abbrev pub cell_after_sets : (ℕ → Width) → (ℕ → ℕ) → List (ℕ × Term) → ℕ → ℕ
cell_after_sets width cells sets q = unwrap_or (value_set width cells sets q) (cells q)

-- the same where the first set takes the turn's word in place of its expression
abbrev pub cell_after_input : (ℕ → Width) → (ℕ → ℕ) → ℕ → List (ℕ × Term) → ℕ → ℕ
cell_after_input width cells word [] q = cells q
cell_after_input width cells word (s ∷ others) q = if s.0 == q then word else cell_after_sets width cells others q

-- the cells after the sets of an alternative that takes an input, or none
abbrev pub cells_after : (ℕ → Width) → (ℕ → ℕ) → ℕ → Option Width → List (ℕ × Term) → ℕ → ℕ
cells_after width cells word None sets = cell_after_sets width cells sets
cells_after width cells word (Some w) sets = cell_after_input width cells word sets

-- the stack after a turn, top first, or nothing where the bottom would be popped or the depth passed
abbrev pub stack_after : ℕ → Control → List ℕ → Option (List ℕ)
stack_after depth (Goto q) (top ∷ below) = Some (q ∷ below)
stack_after depth (Push under start) (top ∷ below) =
    if nat_le (length (top ∷ below)) depth then Some (start ∷ under ∷ below) else None
stack_after depth Pop (top ∷ next ∷ below) = Some (next ∷ below)
stack_after depth (PopPush q) (top ∷ next ∷ below) = Some (q ∷ next ∷ below)
stack_after depth Fail (top ∷ below) = Some (top ∷ below)
stack_after depth _ _ = None

-- whether a control is a failure
abbrev pub is_fail : Control → Bool
is_fail Fail = true
is_fail _ = false

-- whether a turn may have this word: one of the input's width, and 0 where there is no input
abbrev pub takes_word : Option Width → ℕ → Bool
takes_word None word = word == 0
takes_word (Some w) word = nat_lt word (limit_of w)

-- the state after an alternative has led to this stack; a failure keeps the cells
abbrev pub state_after : Program → State → PlainAlternative → ℕ → Option (List ℕ) → Option State
state_after p s a word None = None
state_after p s a word (Some stack) =
    Some (record {
      cells = if is_fail a.control then s.cells else cells_after p.width s.cells word a.input a.sets;
      stack = stack;
      is_failed = is_fail a.control;
    })

-- the state after this alternative is taken with this word, or nothing where it can't be
abbrev pub turn_by : Program → State → ℕ → Option PlainAlternative → Option State
turn_by p s word None = None
turn_by p s word (Some a) =
    if takes_word a.input word then state_after p s a word (stack_after p.depth a.control s.stack) else None

-- the alternatives of the top point
abbrev pub alternatives_at : Program → List ℕ → List PlainAlternative
alternatives_at p [] = []
alternatives_at p (top ∷ below) = p.points top

-- one turn: the enabled alternative of the top point with this label is taken with this word; nothing follows a failure
abbrev pub turn : Program → State → ℕ × ℕ → Option State
turn p s pair =
    if s.is_failed then None
    else turn_by p s pair.1 (alternative_with pair.0 (enabled_of p.width s.cells (alternatives_at p s.stack)))

-- the state at the start
abbrev pub start_of : Program → State
start_of p = record { cells = p.starts; stack = reverse p.first; is_failed = false }

-- what the remaining turns make of a state, if there is one
abbrev pub run_on : (State → Option State) → Option State → Option State
run_on rest None = None
run_on rest (Some s) = rest s

-- the state after these pairs of label and word, turn by turn, or nothing where one of them is no turn
abbrev pub run : Program → List (ℕ × ℕ) → State → Option State
run p [] s = Some s
run p (pair ∷ pairs) s = run_on (run p pairs) (turn p s pair)

-- these pairs are a run that ends in this state
pub record IsRunTo (p : Program) (pairs : List (ℕ × ℕ)) (s : State) : Type 0 where
  pub is : run p pairs (start_of p) ≡ Some s

-- these pairs are a run
pub record IsRun (p : Program) (pairs : List (ℕ × ℕ)) : Type 0 where
  pub state : State
  pub is : IsRunTo p pairs state
