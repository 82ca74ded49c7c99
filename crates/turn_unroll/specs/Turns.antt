-- One turn of a draft, in literals.
use Rattle.std.specs.Prelude.{◌≡◌, ℕ, ◌+◌, ◌-◌, ◌<◌, ◌≤◌, Bool, true, false, not, ◌&&◌, ◌||◌, if◌then◌else◌, nat_lt, List, [], ◌∷◌, ◌++◌, length, get_or}
use Rattle.clause_form.specs.declared.lit.Lit.{Lit}
use Rattle.clause_form.specs.ClauseTruth.{Values, is_lit_true}
use Rattle.clause_form.specs.Literals.{AreOf, IsOf}
use Rattle.guard_prog.specs.declared.draft.Draft.{Draft}
use Rattle.guard_prog.specs.Drafts.{program_of}
use Rattle.bit_circuit.specs.BusValue.{number}
use Rattle.bit_circuit.specs.Extension.{PlainFormula, IsModel, Extends, ExtendsWith}
use Rattle.bit_circuit.specs.Selection.{AreCells, AreInside}
use Rattle.turn_law.specs.Building.{HasTruth, all_true, free_of, is_no}
use Rattle.turn_law.specs.Description.{AreRowsWithin}
use Rattle.turn_law.specs.Symbol.{MakesTurn, Row, Symbol, nth, row_true, trues}
use Rattle.turn_unroll.specs.declared.stack.Moves.{Moves}
use Rattle.turn_unroll.specs.declared.turn.Chosen.{Chosen}
use Rattle.turn_unroll.specs.declared.turn.State.{State}
use Rattle.turn_unroll.specs.declared.turn.Turned.{Turned}
use Rattle.turn_unroll.specs.declared.ways.Way.{Way}
use Rattle.turn_unroll.specs.Cells.{cell_after_ways, cell_in}
use Rattle.turn_unroll.specs.Demands.{Demands, is_lone}
use Rattle.turn_unroll.specs.Labels.{all_offered}
use Rattle.turn_unroll.specs.Places.{bits_below}
use Rattle.turn_unroll.specs.Rows.{depth_made}
use Rattle.turn_unroll.specs.Stack.{MovesBy, SlotsBy, TopsBy, has_room}
use Rattle.turn_unroll.specs.Ways.{choice_of}
use Rattle.turn_unroll.specs.Words.{is_word_taken}

-- a symbolic state, and a turn's row
abbrev pub symbol_of : State → Symbol
symbol_of s = record { at = s.at; depth = s.depth; slots = s.slots; cells = s.cells }

abbrev pub row_of_turn : Turned → Row
row_of_turn t = record { labels = t.labels; word = t.word; depth = t.state.depth; failure = t.failure }

-- the literals of a state of this draft: a literal for each point, for each depth, and for each point at each depth below the greatest, and a bus for each cell
pub record IsState (d : Draft) (s : PlainFormula) (state : State) : Type 0 where
  pub truth : HasTruth s
  pub at_inside : AreOf s.variables state.at
  pub at_count : length state.at ≡ length d.points
  pub depth_inside : AreOf s.variables state.depth
  pub depth_count : length state.depth ≡ d.depth + 1
  pub slots_inside : AreRowsWithin s.variables state.slots
  pub slots_count : length state.slots ≡ d.depth
  pub slots_widths : (i : ℕ) → i < d.depth → length (get_or state.slots i []) ≡ length d.points
  pub cells : AreCells s d.widths state.cells

-- each alternative that may be open has a free literal of its label; label i + 1 stands at place i
abbrev pub HasFree : List Lit → List Way → Type 0
HasFree labels [] = Unit {0}
HasFree labels (w ∷ ws) = (is_no w.taken ≡ false → (l : ℕ) → (choice_of w).label ≡ l + 1 → is_no (nth labels l) ≡ false) × HasFree labels ws

-- the literals of a turn's labels and word: free where an alternative may be open that needs them
pub record ChoosesBy (old new : PlainFormula) (was now : List Lit) (opened : List Way) (count : ℕ) (chosen : Chosen) : Type 0 where
  pub other : Lit
  pub labels : List Lit
  pub bits : ℕ
  pub row : chosen.labels ≡ other ∷ labels
  pub extends : ExtendsWith old new (free_of labels ++ free_of chosen.word)
  pub labels_count : length labels ≡ count
  pub word_count : length chosen.word ≡ 32
  pub offered : HasFree labels opened
  pub most : bits_below opened bits
  pub room : (i : ℕ) → i < bits → is_no (nth chosen.word i) ≡ false
  pub labels_inside : AreOf new.variables chosen.labels
  pub word_inside : AreOf new.variables chosen.word
  pub demands_inside : AreOf new.variables now
  pub none : (v : Values) → IsModel v new → is_lit_true v other ≡ not (nat_lt 0 (trues v labels))
  pub lone : (v : Values) → IsModel v new → all_true v now ≡ (all_true v was && is_lone labels v)

-- the literals of the state after a turn
pub record StatesBy (d : Draft) (old new : PlainFormula) (before : State) (ways : List Way) (word : List Lit) (moves : Moves) (after : State) : Type 0 where
  pub extends : Extends old new
  pub cells_inside : AreInside new.variables after.cells
  pub cells_count : length after.cells ≡ length before.cells
  pub cells : (v : Values) → IsModel v new → (q : ℕ) → cell_in v after.cells q ≡ cell_after_ways v d.widths before.cells (number v word) ways q (cell_in v before.cells q)
  pub tops : TopsBy old new ways moves.pop before.depth before.slots (length d.points) after.at
  pub slots : SlotsBy old new ways moves.push before.depth before.slots (length d.points) after.slots
  pub depth_inside : AreOf new.variables after.depth
  pub depth_count : length after.depth ≡ length before.depth
  pub depth : (v : Values) → IsModel v new → (i : ℕ) → i < length before.depth → row_true v after.depth i ≡ depth_made v moves.push moves.pop before.depth i

-- the demands grew by those of a turn
pub record DemandsTurn (old new : PlainFormula) (was now depth : List Lit) (most : ℕ) (opened ways : List Way) (picked : Chosen) (moved : Moves) : Type 0 where
  pub demands : Demands old new was now (λ v. (all_offered v picked.labels opened 1 (length picked.labels - 1) && is_word_taken v picked.word ways) && has_room v depth most ways moved.push)
  pub moves : MovesBy old new ways moved

-- the turn that was built, with the state after it
pub record TurnsBy (d : Draft) (old new : PlainFormula) (before : State) (count : ℕ) (t : Turned) : Type 0 where
  pub makes : MakesTurn (program_of d) old new (symbol_of before) (symbol_of t.state) (row_of_turn t)
  pub state : IsState d new t.state
  pub labels : length t.labels ≡ count + 1
  pub word : length t.word ≡ 32
