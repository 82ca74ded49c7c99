-- The numbers that lists of literals stand for.
use Rattle.std.specs.Prelude.{◌-◌, ◌/◌, ◌%◌, ◌++◌, replicate, take, drop, ◌<◌, not, ◌&&◌, ◌||◌, get_or, nat_eq, bit_and, bit_or, bit_xor, if◌then◌else◌, ◌≡◌, ℕ, ◌+◌, ◌*◌, ◌^◌, ◌≤◌, Bool, List, [], ◌∷◌, length}
use Rattle.clause_form.specs.declared.lit.Lit.{Lit}
use Rattle.clause_form.specs.ClauseTruth.{Values, is_lit_true}
use Rattle.clause_form.specs.Literals.{IsOf, AreOf, literal}
use Rattle.chk_base.specs.Operators.{one_if}
use Rattle.chk_base.specs.declared.expr.BinOp.{BinOp}
use Rattle.chk_base.specs.declared.expr.BinOp.TheVariants as Bin
use Rattle.bit_circuit.specs.Extension.{PlainFormula, IsModel, Extends, xor}
use Rattle.bit_circuit.specs.declared.bits.Gate.{Gate}
use Rattle.bit_circuit.specs.declared.bits.Gate.TheVariants.{And, Or, Xor}
use Rattle.bit_circuit.specs.declared.shift.Way.{Way}
use Rattle.bit_circuit.specs.declared.shift.Way.TheVariants.{Up, Down}

-- the bit of a literal
abbrev pub bit : Values → Lit → ℕ
bit v l = one_if (is_lit_true v l)

-- the number whose bits the literals are, lowest first
abbrev pub number : Values → List Lit → ℕ
number v [] = 0
number v (l ∷ ls) = bit v l + 2 * number v ls

-- two literals that are the sum of three, as bits
pub record Adds (old new : PlainFormula) (a b c sum carry : Lit) : Type 0 where
  pub extends : Extends old new
  pub sum_inside : IsOf new.variables sum
  pub carry_inside : IsOf new.variables carry
  pub equal : (v : Values) → IsModel v new → bit v sum + 2 * bit v carry ≡ bit v a + bit v b + bit v c
  pub few : new.variables ≤ old.variables + 5

-- a list of literals in the place of another, and a carry, whose number is the sum of two lists and a literal
pub record AddsInto (old new : PlainFormula) (was now b : List Lit) (from to : Lit) (most : ℕ) : Type 0 where
  pub extends : Extends old new
  pub length_kept : length now ≡ length was
  pub inside : AreOf new.variables now
  pub carry_inside : IsOf new.variables to
  pub equal : (v : Values) → IsModel v new → number v now + 2 ^ length b * bit v to ≡ number v was + number v b + bit v from
  pub few : new.variables ≤ old.variables + most

-- the value of a gate
abbrev pub gate_value : Gate → Bool → Bool → Bool
gate_value And a b = a && b
gate_value Or a b = a || b
gate_value Xor a b = xor a b

-- the gate's value under each assignment
abbrev pub gated : Gate → Values → Bool → Bool → Bool
gated g v a b = gate_value g a b

-- whether a list's number is above 0
abbrev pub any_true : List Lit → Values → Bool
any_true ls v = not (nat_eq (number v ls) 0)

-- a literal of a list
abbrev pub nth : List Lit → ℕ → Lit
nth ls k = get_or ls k (literal 0)

-- a list of literals in the place of another, of which the first so many are made of it and a second list one by one
pub record MakesEach (old new : PlainFormula) (f : Values → Bool → Bool → Bool) (was now b : List Lit) (done most : ℕ) : Type 0 where
  pub extends : Extends old new
  pub length_kept : length now ≡ length was
  pub inside : AreOf new.variables now
  pub made : (v : Values) → IsModel v new → (k : ℕ) → k < done → is_lit_true v (nth now k) ≡ f v (is_lit_true v (nth was k)) (is_lit_true v (nth b k))
  pub rest : (k : ℕ) → done ≤ k → nth now k ≡ nth was k
  pub few : new.variables ≤ old.variables + most

-- the choice of a literal between two values
abbrev pub choice : Lit → Values → Bool → Bool → Bool
choice c v a b = if is_lit_true v c then b else a

-- an answer of 32 literals that has this number under every model, with at most so many new variables
pub record MakesBus (old new : PlainFormula) (answer : List Lit) (value : Values → ℕ) (most : ℕ) : Type 0 where
  pub extends : Extends old new
  pub width : length answer ≡ 32
  pub inside : AreOf new.variables answer
  pub equal : (v : Values) → IsModel v new → number v answer ≡ value v
  pub few : new.variables ≤ old.variables + most

-- a sum of 32 literals and a carry
pub record MakesSum (old new : PlainFormula) (a b : List Lit) (from : Lit) (answer : List Lit) (to : Lit) (most : ℕ) : Type 0 where
  pub extends : Extends old new
  pub width : length answer ≡ 32
  pub inside : AreOf new.variables answer
  pub carry_inside : IsOf new.variables to
  pub equal : (v : Values) → IsModel v new → number v answer + 2 ^ 32 * bit v to ≡ number v a + number v b + bit v from
  pub few : new.variables ≤ old.variables + most

-- the gate of two numbers, bit by bit
abbrev pub gate_word : Gate → ℕ → ℕ → ℕ
gate_word And a b = bit_and a b
gate_word Or a b = bit_or a b
gate_word Xor a b = bit_xor a b

-- a difference of 32 literals, and whether nothing was borrowed
pub record MakesDifference (old new : PlainFormula) (a b : List Lit) (answer : List Lit) (fits : Lit) (most : ℕ) : Type 0 where
  pub extends : Extends old new
  pub width : length answer ≡ 32
  pub inside : AreOf new.variables answer
  pub fits_inside : IsOf new.variables fits
  pub equal : (v : Values) → IsModel v new → number v answer + 2 ^ 32 * bit v fits + number v b ≡ number v a + 2 ^ 32
  pub few : new.variables ≤ old.variables + most

-- the literals moved by so many places, with another at the places that are left
abbrev pub moved_lits : Way → List Lit → ℕ → Lit → List Lit
moved_lits Up ls k fill = replicate k fill ++ take (length ls - k) ls
moved_lits Down ls k fill = drop k ls ++ replicate k fill

-- a word shifted by so many places
abbrev pub moved : Way → ℕ → ℕ → ℕ
moved Up n k = (n * 2 ^ k) % 2 ^ 32
moved Down n k = n / 2 ^ k

-- shifted by the low bits of a number
abbrev pub moved_by : Way → List Lit → List Lit → ℕ → Values → ℕ
moved_by way a amount low v = moved way (number v a) (number v (take low amount))

-- an answer of 32 literals that has this number under every model where a fact holds
pub record MakesWhere (old new : PlainFormula) (answer : List Lit) (fact : Values → Type 0) (value : Values → ℕ) (most : ℕ) : Type 0 where
  pub extends : Extends old new
  pub width : length answer ≡ 32
  pub inside : AreOf new.variables answer
  pub equal : (v : Values) → IsModel v new → fact v → number v answer ≡ value v
  pub few : new.variables ≤ old.variables + most

-- an answer that is true where a number is 1, and else the number is 0
pub record MakesTest (old new : PlainFormula) (answer : Lit) (value : Values → ℕ) (most : ℕ) : Type 0 where
  pub extends : Extends old new
  pub inside : IsOf new.variables answer
  pub equal : (v : Values) → IsModel v new → bit v answer ≡ value v
  pub few : new.variables ≤ old.variables + most

-- the operator divides
abbrev pub IsDivision : BinOp → Type 0
IsDivision Bin.DivU = Unit {0}
IsDivision Bin.DivS = Unit {0}
IsDivision Bin.RemU = Unit {0}
IsDivision Bin.RemS = Unit {0}
IsDivision _ = ⊥

-- the operator tests: it gives 1 or 0
abbrev pub IsTest : BinOp → Type 0
IsTest Bin.Eq = Unit {0}
IsTest Bin.LtU = Unit {0}
IsTest Bin.LtS = Unit {0}
IsTest Bin.LeU = Unit {0}
IsTest Bin.LeS = Unit {0}
IsTest Bin.AddOver = Unit {0}
IsTest Bin.SubOver = Unit {0}
IsTest Bin.MulOver = Unit {0}
IsTest _ = ⊥
