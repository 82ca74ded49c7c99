-- What loops keep.
use Rattle.std.proofs.Common.{◌≡◌, ℕ, ◌+◌, ◌*◌, ◌^◌, ◌<◌, ◌≤◌, false, List, length, take, drop, get_or}
use Rattle.clause_form.specs.declared.lit.Lit.{Lit}
use Rattle.clause_form.specs.ClauseTruth.{Values, is_lit_true}
use Rattle.clause_form.specs.Literals.{AreOf}
use Rattle.bit_circuit.specs.declared.bus.Bus.{Bus}
use Rattle.bit_circuit.specs.Extension.{PlainFormula, IsModel, Extends}
use Rattle.bit_circuit.specs.BusValue.{nth, number}
use Rattle.bit_circuit.specs.Selection.{numbers}

-- the product of a and the low digits of b
pub record IsMultiplying (old new : PlainFormula) (a b : List Lit) (done : ℕ) (low sum : List Lit) : Type 0 where
  pub extends : Extends old new
  pub low_width : length low ≡ 32
  pub low_inside : AreOf new.variables low
  pub sum_width : length sum ≡ 33
  pub sum_inside : AreOf new.variables sum
  pub below : (v : Values) → IsModel v new → number v sum < 2 ^ 32
  pub equal : (v : Values) → IsModel v new → number v (take done low) + 2 ^ done * number v sum ≡ number v a * number v (take done b)
  pub few : new.variables ≤ old.variables + 198 * done

-- the high digits of a divided by b
pub record IsDividing (old new : PlainFormula) (a b : List Lit) (left : ℕ) (quotient rest : List Lit) : Type 0 where
  pub extends : Extends old new
  pub quotient_width : length quotient ≡ 32
  pub quotient_inside : AreOf new.variables quotient
  pub rest_width : length rest ≡ 33
  pub rest_inside : AreOf new.variables rest
  pub below : (v : Values) → IsModel v new → 0 < number v b → number v rest < number v b
  pub equal : (v : Values) → IsModel v new → 0 < number v b → number v (drop left quotient) * number v b + number v rest ≡ number v (drop left a)
  pub few : new.variables + 198 * left ≤ old.variables + 6336

-- the low bits of a number are put into a list of 32, and the rest is to come
pub record IsConstant (s : PlainFormula) (n done rest : ℕ) (ls : List Lit) : Type 0 where
  pub width : length ls ≡ 32
  pub inside : AreOf s.variables ls
  pub empty : (v : Values) → IsModel v s → (k : ℕ) → done ≤ k → k < 32 → is_lit_true v (nth ls k) ≡ false
  pub equal : (v : Values) → IsModel v s → number v ls + 2 ^ done * rest ≡ n

-- the number of the bus at the place that an index says, among the first few buses
abbrev pub number_below : ℕ → List Bus → Bus → Values → ℕ
number_below n items index v = get_or (take n (numbers v items)) (number v index.lits) 0
