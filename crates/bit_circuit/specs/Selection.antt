-- Lists of buses: choices among them, and the cells that they stand for.
use Rattle.std.specs.Prelude.{◌≡◌, ℕ, ◌+◌, ◌<◌, ◌≤◌, Bool, false, List, [], ◌∷◌, length, map, get_or}
use Rattle.clause_form.specs.declared.lit.Lit.{Lit}
use Rattle.clause_form.specs.Literals.{AreOf}
use Rattle.clause_form.specs.ClauseTruth.{Values, is_lit_true}
use Rattle.chk_base.specs.declared.word.Width.{Width}
use Rattle.chk_base.specs.Widths.{PlainWord, bits_of, read_as}
use Rattle.chk_base.specs.WordValue.{word_at}
use Rattle.chk_base.specs.Term.{Term, Const, Cell, Pick, Un, Bin, Choose}
use Rattle.bit_circuit.specs.declared.bus.Bus.{Bus}
use Rattle.bit_circuit.specs.Extension.{PlainFormula, IsModel}
use Rattle.bit_circuit.specs.BusValue.{nth, number}

-- the literals of the buses have the first n variables
abbrev pub AreInside : ℕ → List Bus → Type 0
AreInside n [] = Unit {0}
AreInside n (b ∷ bs) = AreOf n b.lits × AreInside n bs

-- the numbers of the buses
abbrev pub numbers : Values → List Bus → List ℕ
numbers v bs = map (λ (b : Bus). number v b.lits) bs

-- the number of the bus at the place that an index says, and 0 outside the list
abbrev pub number_at : List Bus → Bus → Values → ℕ
number_at items index v = get_or (numbers v items) (number v index.lits) 0

-- the words of these widths whose bits the buses are
abbrev pub words_of : Values → List Width → List Bus → List PlainWord
words_of v [] bs = []
words_of v (w ∷ ws) [] = []
words_of v (w ∷ ws) (b ∷ bs) = record { width = w; bits = number v b.lits } ∷ words_of v ws bs

-- the literals at this place and above are false
pub record AreFalseFrom (v : Values) (k : ℕ) (ls : List Lit) : Type 0 where
  pub at : (i : ℕ) → k ≤ i → i < length ls → is_lit_true v (nth ls i) ≡ false

-- the literals of each bus at its width and above are false
abbrev pub AreNarrow : Values → List Width → List Bus → Type 0
AreNarrow v [] bs = Unit {0}
AreNarrow v (w ∷ ws) [] = Unit {0}
AreNarrow v (w ∷ ws) (b ∷ bs) = AreFalseFrom v (bits_of w) b.lits × AreNarrow v ws bs

-- the buses stand for cells of these widths
pub record AreCells (s : PlainFormula) (widths : List Width) (cells : List Bus) : Type 0 where
  pub same_length : length widths ≡ length cells
  pub inside : AreInside s.variables cells
  pub narrow : (v : Values) → IsModel v s → AreNarrow v widths cells

-- the first buses of a choice among cells
pub record IsGathered (s : PlainFormula) (widths : List Width) (cells : List Bus) (base : ℕ) (signed : Bool) (done : ℕ) (items : List Bus) : Type 0 where
  pub length_is : length items ≡ done
  pub inside : AreInside s.variables items
  pub equal : (v : Values) → IsModel v s → (k : ℕ) → k < done → get_or (numbers v items) k 0 ≡ read_as signed (word_at (words_of v widths cells) (base + k))

-- how many nodes an expression has
abbrev pub node_count : Term → ℕ
node_count (Const n) = 1
node_count (Cell at s) = 1
node_count (Pick base len s index) = node_count index + 1
node_count (Un op a) = node_count a + 1
node_count (Bin op a b) = node_count a + node_count b + 1
node_count (Choose c a b) = node_count c + node_count a + node_count b + 1
