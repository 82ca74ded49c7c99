-- The free literals of a turn, and states as circuits grow.
use Rattle.std.proofs.Common.{◌≡◌, ℕ, suc, zero, ◌+◌, ◌-◌, ◌<◌, ◌≤◌, Bool, true, false, not, ◌&&◌, List, [], ◌∷◌, ◌++◌, refl, sym, ◌∙◌, ap, subst, arith, length, ◌==◌, nat_lt, get_or}
use Rattle.clause_form.specs.declared.lit.Lit.{Lit}
use Rattle.clause_form.specs.ClauseTruth.{Values, is_lit_true}
use Rattle.clause_form.specs.Literals.{AreOf, IsOf, negation}
use Rattle.clause_form.proofs.Negations.{IsOf-negation, is_lit_true-negation}
use Rattle.clause_form.proofs.Rising.{AreOf-more}
use Rattle.guard_prog.specs.declared.draft.Draft.{Draft}
use Rattle.bit_circuit.specs.Extension.{PlainFormula, IsModel, Extends, ExtendsWith}
use Rattle.bit_circuit.proofs.Choosing.{cells_more}
use Rattle.bit_circuit.proofs.Growth.{extends_trans, kept, with_append, with_then}
use Rattle.turn_law.specs.Building.{HasTruth, free_of, is_no}
use Rattle.turn_law.specs.Symbol.{nth, trues}
use Rattle.turn_unroll.specs.declared.turn.Chosen.{Chosen}
use Rattle.turn_unroll.specs.declared.turn.State.{State}
use Rattle.turn_unroll.specs.declared.ways.Way.{Way}
use Rattle.turn_unroll.specs.Demands.{SeesLabels}
use Rattle.turn_unroll.specs.Places.{AreMarked, HasMarks, IsMarkedWord}
use Rattle.turn_unroll.specs.Rows.{IsFreeRow}
use Rattle.turn_unroll.specs.Turns.{ChoosesBy, HasFree, IsState}
use Rattle.turn_unroll.specs.Ways.{choice_of}
use Rattle.clause_form.proofs.Rising.{IsOf-more}
use Rattle.bit_circuit.specs.declared.bus.Bus.{Bus}
use Rattle.bit_circuit.specs.BusValue.{number}
use Rattle.bit_circuit.proofs.Choosing.{AreInside-more}
use Rattle.turn_unroll.specs.declared.stack.Moves.{Moves}
use Rattle.turn_unroll.specs.Cells.{SetsCells, cell_after_ways, cell_in}
use Rattle.turn_unroll.specs.Demands.{Demands}
use Rattle.turn_unroll.specs.Labels.{all_offered}
use Rattle.turn_unroll.specs.Rows.{GivesRow, depth_made}
use Rattle.turn_unroll.specs.Stack.{MovesBy, SlotsBy, TopsBy, has_room}
use Rattle.turn_unroll.specs.Turns.{DemandsTurn, StatesBy}
use Rattle.turn_unroll.specs.Words.{is_word_taken}
use Rattle.turn_unroll.proofs.Demanding.{demands_after, demands_then}
use Rattle.turn_unroll.proofs.Making.{rows_more, truth_more}

marked_free : (places : List Bool) (labels : List Lit) (ws : List Way) → ((i : ℕ) → is_no (nth labels i) ≡ not (get_or places i false)) → HasMarks places ws → HasFree labels ws
marked_free places labels [] f h = tt
marked_free places labels (w ∷ ws) f h = (λ e l q. f l ∙ ap not (ap (λ n. get_or places n false) (omega_of l q) ∙ h.0 e), marked_free places labels ws f h.1)
  where
    omega_of : (l : ℕ) → (choice_of w).label ≡ l + 1 → l ≡ (choice_of w).label - 1
    omega_of l q = omega arith

pub picked_made : (mid a b new : PlainFormula) (was now : List Lit) (opened : List Way) (count : ℕ) (lp wp : List Bool) (labels word row : List Lit) (seen other : Lit) (picked : Chosen)
    → AreMarked count opened lp → IsMarkedWord opened wp → IsFreeRow mid a lp labels → IsFreeRow a b wp word → SeesLabels b new was now labels seen → other ≡ negation seen → row ≡ other ∷ labels → picked ≡ record { labels = row; word = word } → ChoosesBy mid new was now opened count picked
picked_made mid a b new was now opened count lp wp labels word row seen other picked ml mw fl fw s no_seen r e = rw (e, r) (record {
  other = other;
  labels = labels;
  bits = mw.bits;
  row = refl;
  extends = with_then mid b new (free_of labels ++ free_of word) (with_append mid a b (free_of labels) (free_of word) fl.extends fw.extends) s.demands.extends;
  labels_count = fl.count ∙ ml.count;
  word_count = fw.count ∙ mw.count;
  offered = marked_free lp labels opened fl.free ml.marks;
  most = mw.most;
  room = λ i h. fw.free i ∙ ap not (mw.marks i h);
  labels_inside = (rw no_seen (IsOf-negation new.variables seen s.inside), AreOf-more a.variables new.variables labels (omega (arith, fw.extends.grows, s.demands.extends.grows)) fl.inside);
  word_inside = AreOf-more b.variables new.variables word s.demands.extends.grows fw.inside;
  demands_inside = s.demands.inside;
  none = λ v m. rw no_seen (is_lit_true-negation v seen ∙ ap not (s.equal v m));
  lone = λ v m. s.demands.equal v m;
})

-- ---- states
pub state_more : (d : Draft) (s new : PlainFormula) (state : State) → IsState d s state → Extends s new → IsState d new state
state_more d s new state b e = record {
  truth = truth_more s new [] b.truth e;
  at_inside = AreOf-more s.variables new.variables state.at e.grows b.at_inside;
  at_count = b.at_count;
  depth_inside = AreOf-more s.variables new.variables state.depth e.grows b.depth_inside;
  depth_count = b.depth_count;
  slots_inside = rows_more s.variables new.variables state.slots e.grows b.slots_inside;
  slots_count = b.slots_count;
  slots_widths = b.slots_widths;
  cells = cells_more s new [] d.widths state.cells e b.cells;
}

-- also where free literals came between
pub state_with : (d : Draft) (s new : PlainFormula) (free : List Lit) (state : State) → IsState d s state → ExtendsWith s new free → IsState d new state
state_with d s new free state b e = record {
  truth = truth_more s new free b.truth e;
  at_inside = AreOf-more s.variables new.variables state.at e.grows b.at_inside;
  at_count = b.at_count;
  depth_inside = AreOf-more s.variables new.variables state.depth e.grows b.depth_inside;
  depth_count = b.depth_count;
  slots_inside = rows_more s.variables new.variables state.slots e.grows b.slots_inside;
  slots_count = b.slots_count;
  slots_widths = b.slots_widths;
  cells = cells_more s new free d.widths state.cells e b.cells;
}

-- ---- the demands of a turn
pub moves_more : (old mid new : PlainFormula) (ways : List Way) (moved : Moves) → MovesBy old mid ways moved → Extends mid new → MovesBy old new ways moved
moves_more old mid new ways moved p e = record {
  extends = extends_trans old mid new p.extends e;
  push_inside = IsOf-more mid.variables new.variables moved.push e.grows p.push_inside;
  pop_inside = IsOf-more mid.variables new.variables moved.pop e.grows p.pop_inside;
  fail_inside = IsOf-more mid.variables new.variables moved.fail e.grows p.fail_inside;
  push = λ v m. p.push v (kept e v m);
  pop = λ v m. p.pop v (kept e v m);
  fail = λ v m. p.fail v (kept e v m);
}

pub moves_after : (old mid new : PlainFormula) (ways : List Way) (moved : Moves) → Extends old mid → MovesBy mid new ways moved → MovesBy old new ways moved
moves_after old mid new ways moved e p = record {
  extends = extends_trans old mid new e p.extends;
  push_inside = p.push_inside;
  pop_inside = p.pop_inside;
  fail_inside = p.fail_inside;
  push = p.push;
  pop = p.pop;
  fail = p.fail;
}

pub demands_turn : (old a b c new : PlainFormula) (was now1 now2 now3 depth : List Lit) (most : ℕ) (opened ways : List Way) (picked : Chosen) (moved : Moves) → Demands old a was now1 (λ v. all_offered v picked.labels opened 1 (length picked.labels - 1)) → Demands a b now1 now2 (λ v. is_word_taken v picked.word ways) → MovesBy b c ways moved → Demands c new now2 now3 (λ v. has_room v depth most ways moved.push) → DemandsTurn old new was now3 depth most opened ways picked moved
demands_turn old a b c new was now1 now2 now3 depth most opened ways picked moved p q m r = record {
  demands = demands_then old b new was now2 now3 _ _ _ (demands_then old a b was now1 now2 _ _ _ p q (λ v k. refl)) (demands_after b c new now2 now3 _ m.extends r) (λ v k. refl);
  moves = moves_more old c new ways moved (moves_after old b c ways moved (extends_trans old a b p.extends q.extends) m) r.extends;
}

-- ---- the state after a turn
pub states_made : (d : Draft) (old a b c new : PlainFormula) (before : State) (ways : List Way) (word : List Lit) (moved : Moves) (cells : List Bus) (at depth : List Lit) (slots : List (List Lit)) (points : ℕ) (after : State) → IsState d old before → points ≡ length d.points
    → SetsCells old a before.cells cells (λ v q. cell_after_ways v d.widths before.cells (number v word) ways q (cell_in v before.cells q))
    → TopsBy a b ways moved.pop before.depth before.slots points at → SlotsBy b c ways moved.push before.depth before.slots points slots
    → GivesRow c new depth (length before.depth) (λ v i. depth_made v moved.push moved.pop before.depth i)
    → after ≡ record { at = at; depth = depth; slots = slots; cells = cells } → StatesBy d old new before ways word moved after
states_made d old a b c new before ways word moved cells at depth slots points after k n p q r g e = rw e (record {
  extends = extends_trans old a new p.extends bc;
  cells_inside = AreInside-more a.variables new.variables cells bc.grows p.inside;
  cells_count = p.count;
  cells = λ v m i. p.equal v (kept bc v m) i;
  tops = subst (λ x. TopsBy old new ways moved.pop before.depth before.slots x at) n (record {
    extends = extends_trans old a new p.extends bc;
    inside = AreOf-more b.variables new.variables at cd.grows q.inside;
    count = q.count;
    equal = λ v m i h. q.equal v (kept cd v m) i h;
  });
  slots = subst (λ x. SlotsBy old new ways moved.push before.depth before.slots x slots) n (record {
    extends = extends_trans old a new p.extends bc;
    inside = rows_more c.variables new.variables slots g.extends.grows r.inside;
    count = r.count;
    widths = r.widths;
    equal = λ v m i j h l. r.equal v (kept g.extends v m) i j h l;
  });
  depth_inside = g.inside;
  depth_count = g.count;
  depth = λ v m i h. g.equal v m i h;
})
  where
    cd : Extends b new
    cd = extends_trans b c new r.extends g.extends

    bc : Extends a new
    bc = extends_trans a b new q.extends cd
