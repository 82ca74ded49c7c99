-- The symbolic state at the start, from constants.
use Rattle.std.specs.Prelude.{◌≡◌, ℕ, ◌+◌, ◌-◌, ◌<◌, ◌≤◌, Bool, true, false, ◌&&◌, ◌==◌, if◌then◌else◌, nat_lt, List, [], ◌∷◌, length, get_or}
use Rattle.clause_form.specs.declared.lit.Lit.{Lit}
use Rattle.clause_form.specs.ClauseTruth.{Values, is_lit_true}
use Rattle.clause_form.specs.Literals.{AreOf, IsOf, literal}
use Rattle.guard_prog.specs.declared.draft.Draft.{Draft}
use Rattle.guard_prog.specs.Drafts.{program_of}
use Rattle.bit_circuit.specs.declared.bus.Bus.{Bus}
use Rattle.bit_circuit.specs.BusValue.{number}
use Rattle.bit_circuit.specs.Extension.{formula}
use Rattle.turn_law.specs.Padded.{beginning}
use Rattle.turn_law.specs.Sight.{Means}
use Rattle.turn_law.specs.Symbol.{nth, no, row_true, sight}
use Rattle.turn_unroll.specs.declared.turn.State.{State}
use Rattle.turn_unroll.specs.Turns.{IsState, symbol_of}

-- the literal of a truth value
abbrev pub IsKnown : Bool → Lit → Type 0
IsKnown b l = l ≡ (if b then literal 1 else no)

-- so many literals, of which that at one place alone is true
pub record IsRowAt (n at : ℕ) (row : List Lit) : Type 0 where
  pub count : length row ≡ n
  pub within : AreOf 1 row
  pub only : (v : Values) → v 1 ≡ true → (i : ℕ) → row_true v row i ≡ (nat_lt at n && (i == at))

-- rows of so many literals; those of the stack's points have their points true
pub record AreRowsAt (first : List ℕ) (points most : ℕ) (rows : List (List Lit)) : Type 0 where
  pub count : length rows ≡ most
  pub each : (d : ℕ) → d < most → IsRowAt points (get_or first d points) (get_or rows d [])

-- 32 literals of variable 1 whose number is this one
pub record IsConstantBus (n : ℕ) (lits : List Lit) : Type 0 where
  pub within : AreOf 1 lits
  pub value : (v : Values) → v 1 ≡ true → number v lits ≡ n

abbrev pub AreConstants : List ℕ → List Bus → Type 0
AreConstants [] [] = Unit {0}
AreConstants (n ∷ ns) (b ∷ bs) = IsConstantBus n b.lits × AreConstants ns bs
AreConstants _ _ = ⊥

-- a state of the circuit of variable 1 alone, which shows the start
pub record IsStartOf (d : Draft) (began : State) : Type 0 where
  pub state : IsState d (formula 1 ((literal 1 ∷ []) ∷ [])) began
  pub means : (v : Values) → v 1 ≡ true → Means (program_of d) (sight v (symbol_of began)) (beginning (program_of d))
