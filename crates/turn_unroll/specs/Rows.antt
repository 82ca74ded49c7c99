-- Rows of literals that are made.
use Rattle.std.specs.Prelude.{◌≡◌, ℕ, zero, suc, ◌+◌, ◌-◌, ◌<◌, Bool, true, false, not, ◌&&◌, ◌||◌, if◌then◌else◌, ◌==◌, List, [], ◌∷◌, length, get_or}
use Rattle.clause_form.specs.declared.lit.Lit.{Lit}
use Rattle.clause_form.specs.ClauseTruth.{Values, is_lit_true}
use Rattle.clause_form.specs.Literals.{AreOf, IsOf}
use Rattle.bit_circuit.specs.Extension.{PlainFormula, IsModel, Extends, ExtendsWith}
use Rattle.turn_law.specs.Building.{is_no, free_of}
use Rattle.turn_law.specs.Description.{AreRowsWithin}
use Rattle.turn_law.specs.Sight.{one_deeper}
use Rattle.turn_law.specs.Symbol.{no, nth, row_true}

-- an answer that has this value under every model
pub record GivesLit (old new : PlainFormula) (answer : Lit) (value : Values → Bool) : Type 0 where
  pub extends : Extends old new
  pub inside : IsOf new.variables answer
  pub equal : (v : Values) → IsModel v new → is_lit_true v answer ≡ value v

-- so many literals that have these values under every model
pub record GivesRow (old new : PlainFormula) (answer : List Lit) (n : ℕ) (value : Values → ℕ → Bool) : Type 0 where
  pub extends : Extends old new
  pub inside : AreOf new.variables answer
  pub count : length answer ≡ n
  pub equal : (v : Values) → IsModel v new → (i : ℕ) → i < n → row_true v answer i ≡ value v i

-- a new free literal, or the literal that is false
pub record IsFreePlace (old new : PlainFormula) (is_free : Bool) (l : Lit) : Type 0 where
  pub extends : ExtendsWith old new (free_of (l ∷ []))
  pub inside : IsOf new.variables l
  pub free : is_no l ≡ not is_free

-- a row with new free literals at the places that are marked
pub record IsFreeRow (old new : PlainFormula) (places : List Bool) (row : List Lit) : Type 0 where
  pub extends : ExtendsWith old new (free_of row)
  pub inside : AreOf new.variables row
  pub count : length row ≡ length places
  pub free : (i : ℕ) → is_no (nth row i) ≡ not (get_or places i false)

-- the literal before a place of a row, false before the first
abbrev pub before : List Lit → ℕ → Lit
before ls i = if i == 0 then no else nth ls (i - 1)

-- the depth after a turn
abbrev pub depth_made : Values → Lit → Lit → List Lit → ℕ → Bool
depth_made v push pop ls d =
    if is_lit_true v push then one_deeper (row_true v ls) d
    else (if is_lit_true v pop then row_true v ls (d + 1) else row_true v ls d)

-- the literal of one of two rows
abbrev pub row_chosen : Values → Lit → List Lit → List Lit → ℕ → Bool
row_chosen v choice kept new i = if is_lit_true v choice then row_true v new i else row_true v kept i

-- a point is at the depth of which the first row has a true literal, where the row of points at that depth has one
abbrev pub found_below : Values → List Lit → List (List Lit) → ℕ → ℕ → Bool
found_below v from slots i zero = false
found_below v from slots i (suc d) = (row_true v from d && row_true v (get_or slots d []) i) || found_below v from slots i d

-- the rows of points after a turn: at the depth that was, where a point is pushed, it is the one that is left, and else what it was
pub record GivesSlots (old new : PlainFormula) (push : Lit) (depth leave : List Lit) (slots rows : List (List Lit)) (n : ℕ) : Type 0 where
  pub extends : Extends old new
  pub inside : AreRowsWithin new.variables rows
  pub count : length rows ≡ n
  pub widths : (d : ℕ) → d < n → length (get_or rows d []) ≡ length leave
  pub equal : (v : Values) → IsModel v new → (d i : ℕ) → d < n → i < length leave → row_true v (get_or rows d []) i ≡ (if is_lit_true v push && row_true v depth d then row_true v leave i else row_true v (get_or slots d []) i)
