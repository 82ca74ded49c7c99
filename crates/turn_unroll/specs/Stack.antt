-- How a turn moves the stack.
use Rattle.std.specs.Prelude.{◌≡◌, ℕ, zero, suc, ◌+◌, ◌<◌, Bool, false, not, ◌&&◌, ◌||◌, if◌then◌else◌, List, [], length, get_or}
use Rattle.clause_form.specs.declared.lit.Lit.{Lit}
use Rattle.clause_form.specs.ClauseTruth.{Values, is_lit_true}
use Rattle.clause_form.specs.Literals.{AreOf, IsOf}
use Rattle.guard_prog.specs.GuardedRun.{is_fail}
use Rattle.bit_circuit.specs.Extension.{PlainFormula, IsModel, Extends}
use Rattle.turn_law.specs.Description.{AreRowsWithin}
use Rattle.turn_law.specs.Sight.{is_push, is_pop, is_end}
use Rattle.turn_law.specs.Symbol.{row_true}
use Rattle.turn_unroll.specs.declared.stack.Moves.{Moves}
use Rattle.turn_unroll.specs.declared.ways.Way.{Way}
use Rattle.turn_unroll.specs.declared.ways.Side.TheVariants.{Top, Below}
use Rattle.turn_unroll.specs.Rows.{found_below}
use Rattle.turn_unroll.specs.Ways.{any_way, names}

-- the literals that the turn pushes, pops or fails
pub record MovesBy (old new : PlainFormula) (ways : List Way) (moves : Moves) : Type 0 where
  pub extends : Extends old new
  pub push_inside : IsOf new.variables moves.push
  pub pop_inside : IsOf new.variables moves.pop
  pub fail_inside : IsOf new.variables moves.fail
  pub push : (v : Values) → IsModel v new → is_lit_true v moves.push ≡ any_way v (λ a. is_push a.control) ways
  pub pop : (v : Values) → IsModel v new → is_lit_true v moves.pop ≡ any_way v (λ a. is_pop a.control) ways
  pub fail : (v : Values) → IsModel v new → is_lit_true v moves.fail ≡ any_way v (λ a. is_fail a.control) ways

-- a push leaves the depth within the greatest, and the bottom isn't taken away
abbrev pub has_room : Values → List Lit → ℕ → List Way → Lit → Bool
has_room v depth most ways push =
    not (is_lit_true v push && row_true v depth most) && not (any_way v (λ a. is_end a.control) ways && row_true v depth 0)

-- the depths from 1 on, where the turn pops
abbrev pub popped_by : Values → Lit → List Lit → List (List Lit) → ℕ → ℕ → Bool
popped_by v pop depth slots i zero = false
popped_by v pop depth slots i (suc d) =
    ((is_lit_true v pop && row_true v depth (d + 1)) && row_true v (get_or slots d []) i) || popped_by v pop depth slots i d

-- the literals of the top after a turn
pub record TopsBy (old new : PlainFormula) (ways : List Way) (pop : Lit) (depth : List Lit) (slots : List (List Lit)) (n : ℕ) (row : List Lit) : Type 0 where
  pub extends : Extends old new
  pub inside : AreOf new.variables row
  pub count : length row ≡ n
  pub equal : (v : Values) → IsModel v new → (i : ℕ) → i < n → row_true v row i ≡ (any_way v (names Top i) ways || popped_by v pop depth slots i (length slots))

-- the rows of points below the top after it
pub record SlotsBy (old new : PlainFormula) (ways : List Way) (push : Lit) (depth : List Lit) (slots : List (List Lit)) (n : ℕ) (rows : List (List Lit)) : Type 0 where
  pub extends : Extends old new
  pub inside : AreRowsWithin new.variables rows
  pub count : length rows ≡ length slots
  pub widths : (d : ℕ) → d < length slots → length (get_or rows d []) ≡ n
  pub equal : (v : Values) → IsModel v new → (d i : ℕ) → d < length slots → i < n → row_true v (get_or rows d []) i ≡ (if is_lit_true v push && row_true v depth d then any_way v (names Below i) ways else row_true v (get_or slots d []) i)
