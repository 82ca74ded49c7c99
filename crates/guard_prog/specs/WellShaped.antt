-- Drafts that are well shaped: a test for each condition, and then what a point and a draft owe.
use Rattle.std.specs.Prelude.{◌≡◌, ℕ, ◌+◌, ◌<◌, ◌^◌, Bool, true, false, ◌&&◌, ◌||◌, not, if◌then◌else◌, ◌==◌, nat_lt, nat_le, List, [], ◌∷◌, length, Option, Some, None, slice_get}
use Rattle.std.specs.List.{list_all, list_any, zip}
use Rattle.chk_base.specs.declared.sets.Set.{Set}
use Rattle.chk_base.specs.declared.word.Width.{Width}
use Rattle.chk_base.specs.Widths.{bits_of, limit_of}
use Rattle.chk_base.specs.Term.{Term, Const, Cell, Pick, Un, Bin, Choose, term_of}
use Rattle.guard_prog.specs.declared.draft.Control.{Control}
use Rattle.guard_prog.specs.declared.draft.Control.TheVariants.{Goto, Push, Pop, PopPush, Fail}
use Rattle.guard_prog.specs.declared.draft.Draft.{Draft}
use Rattle.guard_prog.specs.declared.guarded.DraftFault.{DraftFault}
use Rattle.guard_prog.specs.declared.guarded.DraftFault.TheVariants.{Shape, Memory}
use Rattle.guard_prog.specs.Drafts.{point_of}

-- there is exactly one start value per width, and each is below 2 to its width
abbrev pub starts_fit : List Width → List ℕ → Bool
starts_fit widths starts =
    (length widths == length starts) && list_all (λ p. nat_lt p.1 (limit_of p.0)) (zip widths starts)

-- there are 1 to 65,536 points, at most 65,535 cells, and exactly one start value per cell, below 2 to its width
abbrev pub sizes_fit : Draft → Bool
sizes_fit d =
    nat_le 1 (length d.points)
    && (nat_le (length d.points) (2 ^ 16) && (nat_lt (length d.widths) (2 ^ 16) && starts_fit d.widths d.starts))

-- a stack, bottom first, begins with point 0 and holds it nowhere else
abbrev pub begins_idle : List ℕ → Bool
begins_idle [] = false
begins_idle (bottom ∷ above) = (bottom == 0) && list_all (λ q. not (q == 0)) above

-- the stack at the start begins with point 0, holds it nowhere else, names points that exist, and has at most depth + 1 entries
abbrev pub first_fits : Draft → Bool
first_fits d =
    begins_idle d.first
    && (list_all (λ q. nat_lt q (length d.points)) d.first && nat_le (length d.first) (d.depth + 1))

-- a control is Goto(0), Fail, or a Push whose `below` is 0 and whose `start` isn't 0
abbrev pub is_idle_control : Control → Bool
is_idle_control (Goto q) = q == 0
is_idle_control (Push below start) = (below == 0) && not (start == 0)
is_idle_control Pop = false
is_idle_control (PopPush q) = false
is_idle_control Fail = true

-- at point 0 each control is Goto(0), Fail, or a Push whose `below` is 0 and whose `start` isn't 0
abbrev pub idle_fits : Draft → Bool
idle_fits d = list_all (λ a. is_idle_control a.control) (point_of d 0)

-- the points that a control names
abbrev pub named_points : Control → List ℕ
named_points (Goto q) = q ∷ []
named_points (Push below start) = below ∷ start ∷ []
named_points Pop = []
named_points (PopPush q) = q ∷ []
named_points Fail = []

-- a control at point i may name this point of n: it exists, and it is point 0 only where i is 0
abbrev pub may_name : ℕ → ℕ → ℕ → Bool
may_name n i q = nat_lt q n && ((i == 0) || not (q == 0))

-- at every other point than point 0 no control names point 0, and at every point each control names points that exist
abbrev pub controls_fit : Draft → ℕ → Bool
controls_fit d i = list_all (λ a. list_all (may_name (length d.points) i) (named_points a.control)) (point_of d i)

-- no two members of the list have the same number
abbrev pub are_distinct_by : {X : Type 0} → (X → ℕ) → List X → Bool
are_distinct_by number [] = true
are_distinct_by number (x ∷ others) =
    not (list_any (λ y. number y == number x) others) && are_distinct_by number others

-- the labels of the point are distinct and are from 1 to 1,048,575
abbrev pub labels_fit : Draft → ℕ → Bool
labels_fit d i =
    are_distinct_by (λ a. a.label) (point_of d i)
    && list_all (λ a. nat_le 1 a.label && nat_lt a.label (2 ^ 20)) (point_of d i)

-- every Cell and Pick of an expression names cells among the first n, and a Pick has a length of at least 1
abbrev pub names_cells : ℕ → Term → Bool
names_cells n (Const k) = true
names_cells n (Cell at s) = nat_lt at n
names_cells n (Pick base len s index) = nat_le 1 len && (nat_le (base + len) n && names_cells n index)
names_cells n (Un op a) = names_cells n a
names_cells n (Bin op a b) = names_cells n a && names_cells n b
names_cells n (Choose c a b) = names_cells n c && (names_cells n a && names_cells n b)

-- the cells that are set, and those that the expressions name, are among the first n
abbrev pub sets_name_cells : ℕ → List Set → Bool
sets_name_cells n sets = list_all (λ s. nat_lt s.cell n && names_cells n (term_of s.value)) sets

-- the same, and no two sets have the same cell
abbrev pub sets_fit : ℕ → List Set → Bool
sets_fit n sets = are_distinct_by (λ s. s.cell) sets && sets_name_cells n sets

-- every Cell, Pick and set names cells that exist, a Pick has a length of at least 1, and the sets of one alternative have distinct cells
abbrev pub cells_fit : Draft → ℕ → Bool
cells_fit d i =
    list_all (λ a. names_cells (length d.widths) (term_of a.guard) && sets_fit (length d.widths) a.sets) (point_of d i)

-- there is a width, and it is this one
abbrev pub is_width : Option Width → Width → Bool
is_width None w = false
is_width (Some v) w = bits_of v == bits_of w

-- where there is an input, there is a first set, and its cell has the input's width
abbrev pub input_fits : List Width → List Set → Option Width → Bool
input_fits widths sets None = true
input_fits widths [] (Some w) = false
input_fits widths (s ∷ others) (Some w) = is_width (slice_get widths s.cell) w

-- an alternative with an input has a first set, and the cell of that set has the input's width
abbrev pub inputs_fit : Draft → ℕ → Bool
inputs_fit d i = list_all (λ a. input_fits d.widths a.sets a.input) (point_of d i)

-- a draft is well shaped where the conditions hold
pub record IsWellShaped (d : Draft) : Type 0 where
  pub sizes : sizes_fit d ≡ true
  pub first : first_fits d ≡ true
  pub idle : idle_fits d ≡ true
  pub controls : (i : ℕ) → controls_fit d i ≡ true
  pub labels : (i : ℕ) → labels_fit d i ≡ true
  pub cells : (i : ℕ) → cells_fit d i ≡ true
  pub inputs : (i : ℕ) → inputs_fit d i ≡ true

-- the point breaks no condition; the first three count as conditions of point 0
abbrev pub point_fits : Draft → ℕ → Bool
point_fits d i =
    (if i == 0 then sizes_fit d && (first_fits d && idle_fits d) else true)
    && (controls_fit d i && (labels_fit d i && (cells_fit d i && inputs_fit d i)))

-- the least point that breaks a condition
pub record IsFirstBreak (d : Draft) (i : ℕ) : Type 0 where
  pub broken : point_fits d i ≡ false
  pub before : (k : ℕ) → k < i → point_fits d k ≡ true

-- why a draft is refused: Shape names the least point that breaks a condition, and Memory never comes
abbrev pub IsCause : Draft → DraftFault → Type 0
IsCause d (Shape i) = IsFirstBreak d i
IsCause d Memory = ⊥
