-- Lists of literals that a turn demands.
use Rattle.std.specs.Prelude.{◌≡◌, ℕ, zero, suc, ◌+◌, Bool, true, not, ◌&&◌, ◌||◌, nat_le, nat_lt, List}
use Rattle.clause_form.specs.declared.lit.Lit.{Lit}
use Rattle.clause_form.specs.ClauseTruth.{Values, is_lit_true}
use Rattle.clause_form.specs.Literals.{AreOf, IsOf}
use Rattle.bit_circuit.specs.Extension.{PlainFormula, IsModel, Extends}
use Rattle.turn_law.specs.Building.{all_true}
use Rattle.turn_law.specs.Symbol.{row_true, trues}

-- the literal is demanded too
pub record IsDemanded (was now : List Lit) (l : Lit) : Type 0 where
  pub inside : (n : ℕ) → AreOf n was → IsOf n l → AreOf n now
  pub equal : (v : Values) → v 1 ≡ true → all_true v now ≡ (all_true v was && is_lit_true v l)

-- the demands grew by this fact
pub record Demands (old new : PlainFormula) (was now : List Lit) (fact : Values → Bool) : Type 0 where
  pub extends : Extends old new
  pub inside : AreOf new.variables now
  pub equal : (v : Values) → IsModel v new → all_true v now ≡ (all_true v was && fact v)

abbrev pub implied : Lit → Lit → Values → Bool
implied a b v = not (is_lit_true v a) || is_lit_true v b

abbrev pub apart : Lit → Lit → Values → Bool
apart a b v = not (is_lit_true v a && is_lit_true v b)

-- at most one of the literals is true, and one is
abbrev pub is_lone : List Lit → Values → Bool
is_lone ls v = nat_le (trues v ls) 1

abbrev pub is_some : List Lit → Values → Bool
is_some ls v = nat_lt 0 (trues v ls)

-- no two of the labels are true, and whether one is
pub record SeesLabels (old new : PlainFormula) (was now labels : List Lit) (seen : Lit) : Type 0 where
  pub demands : Demands old new was now (is_lone labels)
  pub inside : IsOf new.variables seen
  pub equal : (v : Values) → IsModel v new → is_lit_true v seen ≡ is_some labels v

-- a fact of each of so many numbers from one on
abbrev pub each_from : (ℕ → Bool) → ℕ → ℕ → Bool
each_from f from zero = true
each_from f from (suc n) = each_from f from n && f (from + n)

-- each of so many literals from a place on implies the one at its place
abbrev pub each_implied : Values → List Lit → List Lit → ℕ → ℕ → Bool
each_implied v ls ms from n = each_from (λ i. not (row_true v ls i) || row_true v ms i) from n

-- each of so many literals from a place on implies this
abbrev pub all_imply : Values → List Lit → Bool → ℕ → ℕ → Bool
all_imply v ls b from n = each_from (λ i. not (row_true v ls i) || b) from n
