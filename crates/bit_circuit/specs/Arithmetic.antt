-- Products and quotients of lists of literals.
use Rattle.std.specs.Prelude.{◌≡◌, ℕ, ◌+◌, ◌*◌, ◌/◌, ◌%◌, ◌^◌, ◌<◌, ◌≤◌, List, length, if◌then◌else◌, nat_le}
use Rattle.clause_form.specs.declared.lit.Lit.{Lit}
use Rattle.clause_form.specs.ClauseTruth.{Values, is_lit_true}
use Rattle.clause_form.specs.Literals.{IsOf, AreOf}
use Rattle.bit_circuit.specs.Extension.{PlainFormula, IsModel, Extends}
use Rattle.bit_circuit.specs.BusValue.{bit, number}

-- a list of 33 literals with the number of a bus
pub record IsWide (s : PlainFormula) (bus wide : List Lit) : Type 0 where
  pub width : length wide ≡ 33
  pub inside : AreOf s.variables wide
  pub equal : (v : Values) → IsModel v s → number v wide ≡ number v bus

-- twice the new sum and a literal are the old sum and, where the digit is true, the number a
pub record MultiplyStep (old new : PlainFormula) (was now a : List Lit) (digit low : Lit) : Type 0 where
  pub extends : Extends old new
  pub width : length now ≡ 33
  pub inside : AreOf new.variables now
  pub low_inside : IsOf new.variables low
  pub equal : (v : Values) → IsModel v new → number v was < 2 ^ 32 → number v a < 2 ^ 32 → bit v low + 2 * number v now ≡ number v was + (if is_lit_true v digit then number v a else 0)
  pub few : new.variables ≤ old.variables + 198

-- the product in two words
pub record MakesProduct (old new : PlainFormula) (a b low high : List Lit) : Type 0 where
  pub extends : Extends old new
  pub low_width : length low ≡ 32
  pub low_inside : AreOf new.variables low
  pub high_width : length high ≡ 32
  pub high_inside : AreOf new.variables high
  pub equal : (v : Values) → IsModel v new → number v low + 2 ^ 32 * number v high ≡ number v a * number v b
  pub few : new.variables ≤ old.variables + 6336

-- twice the rest and a digit, less b where b goes into it
pub record DivideStep (old new : PlainFormula) (was now complement : List Lit) (digit fits : Lit) : Type 0 where
  pub extends : Extends old new
  pub width : length now ≡ 33
  pub inside : AreOf new.variables now
  pub fits_inside : IsOf new.variables fits
  pub equal : (v : Values) → IsModel v new → (b : ℕ) → number v was < 2 ^ 32 → number v complement + b + 1 ≡ 2 ^ 33 → (is_lit_true v fits ≡ nat_le b (bit v digit + 2 * number v was)) × (number v now + bit v fits * b ≡ bit v digit + 2 * number v was)
  pub few : new.variables ≤ old.variables + 198

-- the quotient and the rest, where the divisor is above 0
pub record MakesQuotient (old new : PlainFormula) (a b quotient rest : List Lit) : Type 0 where
  pub extends : Extends old new
  pub quotient_width : length quotient ≡ 32
  pub quotient_inside : AreOf new.variables quotient
  pub rest_width : length rest ≡ 32
  pub rest_inside : AreOf new.variables rest
  pub quotient_is : (v : Values) → IsModel v new → 0 < number v b → number v quotient ≡ number v a / number v b
  pub rest_is : (v : Values) → IsModel v new → 0 < number v b → number v rest ≡ number v a % number v b
  pub few : new.variables ≤ old.variables + 6336
