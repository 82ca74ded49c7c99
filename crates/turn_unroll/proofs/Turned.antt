-- A turn is built, and the state after it is one.
use Rattle.std.proofs.Common.{◌≡◌, ℕ, suc, zero, ◌+◌, ◌-◌, ◌<◌, ◌≤◌, Bool, true, false, not, ◌&&◌, ◌||◌, List, [], ◌∷◌, ◌++◌, refl, sym, ◌∙◌, ap, subst, arith, if◌then◌else◌, length, ◌==◌, nat_le, nat_lt, get_or}
use Rattle.std.proofs.lemmas.Bool.{and_parts, and_from}
use Rattle.std.proofs.lemmas.Bool.Decides.{nat_tests}
use Rattle.chk_base.specs.Widths.{limit_of}
use Rattle.clause_form.specs.declared.lit.Lit.{Lit}
use Rattle.clause_form.specs.ClauseTruth.{Values, is_lit_true}
use Rattle.clause_form.specs.Literals.{AreOf, IsOf}
use Rattle.clause_form.proofs.Rising.{AreOf-more, IsOf-more}
use Rattle.guard_prog.specs.declared.draft.Draft.{Draft}
use Rattle.guard_prog.specs.Drafts.{program_of}
use Rattle.guard_prog.specs.GuardedRun.{is_fail}
use Rattle.guard_prog.specs.WellShaped.{IsWellShaped}
use Rattle.bit_circuit.specs.BusValue.{bit, number}
use Rattle.bit_circuit.specs.Extension.{PlainFormula, IsModel, Extends, ExtendsWith, with_clauses}
use Rattle.bit_circuit.specs.Selection.{AreCells, AreNarrow}
use Rattle.bit_circuit.proofs.Choosing.{cells_more}
use Rattle.bit_circuit.proofs.Growth.{extends_trans, kept, with_then}
use Rattle.turn_law.specs.Building.{BuildsTurn, HasTruth, all_true, picks, units}
use Rattle.turn_law.specs.Padded.{Phase}
use Rattle.turn_law.specs.Sight.{Allows, IsOffered, Means, Offer, is_pop, is_push}
use Rattle.turn_law.specs.Symbol.{MakesTurn, Row, chosen, sight, trues}
use Rattle.turn_law.specs.Unrolled.{AreLabelled, offers_from}
use Rattle.turn_law.proofs.Built.{built, model_parts, pick_reads}
use Rattle.turn_law.proofs.Shaping.{offers}
use Rattle.turn_unroll.specs.declared.stack.Moves.{Moves}
use Rattle.turn_unroll.specs.declared.turn.Chosen.{Chosen}
use Rattle.turn_unroll.specs.declared.turn.State.{State}
use Rattle.turn_unroll.specs.declared.turn.Turned.{Turned}
use Rattle.turn_unroll.specs.declared.ways.Way.{Way}
use Rattle.turn_unroll.specs.Cells.{AreFit, cell_in, is_open_in, width_in}
use Rattle.turn_unroll.specs.Demands.{is_lone}
use Rattle.turn_unroll.specs.Labels.{all_offered}
use Rattle.turn_unroll.specs.Stack.{has_room}
use Rattle.turn_unroll.specs.Turns.{ChoosesBy, DemandsTurn, IsState, StatesBy, TurnsBy, row_of_turn, symbol_of}
use Rattle.turn_unroll.specs.Ways.{OpensWays, TakesWays, any_way, choices_of, offered_choices}
use Rattle.turn_unroll.specs.Words.{is_word_taken}
use Rattle.turn_unroll.proofs.Allowing.{Demanded, allows_demanded, demanded_allows, label_free, once_from, once_to, word_room}
use Rattle.turn_unroll.proofs.Making.{rows_more, truth_more}
use Rattle.turn_unroll.proofs.Setting.{after_small, cells_narrow, cells_small}
use Rattle.turn_unroll.proofs.Fitting.{draft_fits, fit_numbered}
use Rattle.turn_unroll.proofs.Showing.{Under, shows, symbol_same, under_any}

-- what the functions of a turn gave, one after another
pub record Parts (d : Draft) (old mid s2 s3 s4 gates : PlainFormula) (before : State) (count : ℕ) (none dem1 dem2 : List Lit) (opened ways : List Way) (picked : Chosen) (moves : Moves) (after : State) : Type 0 where
  pub shaped : IsWellShaped d
  pub state : IsState d old before
  pub empty : none ≡ []
  pub opens : OpensWays old mid before.at (is_open_in d.widths before.cells) (offers_from 0 d.points) opened
  pub chooses : ChoosesBy mid s2 none dem1 opened count picked
  pub takes : TakesWays s2 s3 picked.labels opened ways
  pub demands : DemandsTurn s3 s4 dem1 dem2 before.depth d.depth opened ways picked moves
  pub states : StatesBy d s4 gates before ways picked.word moves after

both : (a b : Bool) → (a && b) ≡ true → (a ≡ true) × (b ≡ true)
both a b e = and_parts a b e

pub turned : (d : Draft) (old mid s2 s3 s4 gates : PlainFormula) (before : State) (count : ℕ) (none dem1 dem2 : List Lit) (opened ways : List Way) (picked : Chosen) (moves : Moves) (after : State) → Parts d old mid s2 s3 s4 gates before count none dem1 dem2 opened ways picked moves after → (t : Turned) → t ≡ record { labels = picked.labels; word = picked.word; failure = moves.fail; state = after } → (new : PlainFormula) → new ≡ with_clauses gates (units dem2) → TurnsBy d old new before count t
turned d old mid s2 s3 s4 gates before count none dem1 dem2 opened ways picked moves after k t e new f = rw (e, f) (record {
  makes = built (program_of d) os old mid gates (symbol_of before) (symbol_of after) row k.chooses.other k.chooses.labels dem2 is_offered.0 builds;
  state = record {
    truth = record { starts = truth.starts; one = λ v m. truth.one v (model_parts v gates dem2 m).0 };
    at_inside = k.states.tops.inside;
    at_count = k.states.tops.count;
    depth_inside = k.states.depth_inside;
    depth_count = k.states.depth_count ∙ k.state.depth_count;
    slots_inside = k.states.slots.inside;
    slots_count = k.states.slots.count ∙ k.state.slots_count;
    slots_widths = λ i h. k.states.slots.widths i (omega (arith, k.state.slots_count));
    cells = record {
      same_length = k.state.cells.same_length ∙ sym k.states.cells_count;
      inside = k.states.cells_inside;
      narrow = λ v m. narrow v (model_parts v gates dem2 m).0;
    };
  };
  labels = ap length k.chooses.row ∙ omega (arith, k.chooses.labels_count);
  word = k.chooses.word_count;
})
  where
    os : List Offer
    os = offers_from 0 d.points

    is_offered : IsOffered (program_of d) os × AreLabelled (program_of d)
    is_offered = offers d k.shaped

    row : Row
    row = row_of_turn (record { labels = picked.labels; word = picked.word; failure = moves.fail; state = after })

    later : Extends s2 gates
    later = extends_trans s2 s3 gates k.takes.extends (extends_trans s3 s4 gates k.demands.demands.extends k.states.extends)

    grown : s2.variables ≤ gates.variables
    grown = later.grows

    at2 : (v : Values) → IsModel v gates → IsModel v s2
    at2 v m = kept later v m

    at4 : (v : Values) → IsModel v gates → IsModel v s4
    at4 v m = kept k.states.extends v m

    at3 : (v : Values) → IsModel v gates → IsModel v s3
    at3 v m = kept k.demands.demands.extends v (at4 v m)

    at_mid : (v : Values) → IsModel v gates → IsModel v mid
    at_mid v m = kept k.chooses.extends v (at2 v m)

    at_old : (v : Values) → IsModel v mid → IsModel v old
    at_old v m = kept k.opens.extends v m

    truth : HasTruth gates
    truth = truth_more s2 gates [] (truth_more mid s2 _ (truth_more old mid [] k.state.truth k.opens.extends) k.chooses.extends) later

    one : (v : Values) → IsModel v gates → v 1 ≡ true
    one v m = truth.one v m

    fits : AreFit (length d.points) d.widths (offered_choices os)
    fits = draft_fits d k.shaped

    ways_fit : AreFit (length d.points) d.widths (choices_of ways)
    ways_fit = subst (AreFit (length d.points) d.widths) (sym (k.takes.same ∙ k.opens.same)) fits

    under : (v : Values) → IsModel v gates → Under d os v before row.labels opened ways
    under v m = record {
      one = one v m;
      cells = k.state.cells.same_length;
      opens = k.opens.equal v (at_mid v m);
      labelled = k.takes.equal v (at3 v m);
      same = k.opens.same;
      taken = k.takes.same;
      numbered = fit_numbered (length d.points) d.widths (offered_choices os) fits;
    }

    push : (v : Values) → IsModel v gates → is_lit_true v moves.push ≡ any_way v (λ a. is_push a.control) ways
    push v m = k.demands.moves.push v (at4 v m)

    pop : (v : Values) → IsModel v gates → is_lit_true v moves.pop ≡ any_way v (λ a. is_pop a.control) ways
    pop v m = k.demands.moves.pop v (at4 v m)

    narrow : (v : Values) → IsModel v gates → AreNarrow v d.widths after.cells
    narrow v m = cells_narrow v d.widths after.cells (λ q.
        subst (λ n. n < limit_of (width_in d.widths q)) (sym (k.states.cells v m q)) (after_small v (length d.points) d.widths before.cells (number v picked.word) ways q (cell_in v before.cells q) ways_fit (cells_small v d.widths before.cells q k.state.cells.same_length (k.state.cells.narrow v (at_old v (at_mid v m))))))

    total : (v : Values) → IsModel v gates → trues v row.labels ≡ bit v k.chooses.other + trues v k.chooses.labels
    total v m = ap (trues v) k.chooses.row

    demanded : (v : Values) → IsModel v gates → all_true v dem2 ≡ (is_lone k.chooses.labels v && ((all_offered v picked.labels opened 1 (length picked.labels - 1) && is_word_taken v picked.word ways) && has_room v before.depth d.depth ways moves.push))
    demanded v m = k.demands.demands.equal v (at4 v m) ∙ ap (λ b. b && ((all_offered v picked.labels opened 1 (length picked.labels - 1) && is_word_taken v picked.word ways) && has_room v before.depth d.depth ways moves.push)) (k.chooses.lone v (at2 v m) ∙ ap (λ ls. all_true v ls && is_lone k.chooses.labels v) k.empty)

    some : 0 < length row.labels
    some = let n : length row.labels ≡ suc (length k.chooses.labels) = ap length k.chooses.row in omega arith

    forced : (v : Values) → IsModel v gates → (ph : Phase) → Means (program_of d) (sight v (symbol_of before)) ph → all_true v dem2 ≡ true → (trues v row.labels ≡ 1) × Allows (program_of d) os (sight v (symbol_of before)) (picks v row)
    forced v m ph means h =
        let p = both (is_lone k.chooses.labels v) _ (sym (demanded v m) ∙ h) in
        let q = both (all_offered v picked.labels opened 1 (length picked.labels - 1) && is_word_taken v picked.word ways) (has_room v before.depth d.depth ways moves.push) p.1 in
        let r = both (all_offered v picked.labels opened 1 (length picked.labels - 1)) (is_word_taken v picked.word ways) q.0 in
        let once : trues v row.labels ≡ 1 = total v m ∙ ap (λ b. (if b then 1 else 0) + trues v k.chooses.labels) (k.chooses.none v (at2 v m)) ∙ once_from (trues v k.chooses.labels) p.0 in
        (once, demanded_allows d os v before row opened ways moves.push (chosen v row) ph is_offered.0 means (pick_reads v row (one v m) once) some k.chooses.word_count (push v m) (under v m) (record { offered = r.0; word = r.1; room = q.1 }))

    free : (v : Values) → IsModel v gates → (ph : Phase) → Means (program_of d) (sight v (symbol_of before)) ph → trues v row.labels ≡ 1 → Allows (program_of d) os (sight v (symbol_of before)) (picks v row) → all_true v dem2 ≡ true
    free v m ph means once a =
        let g = allows_demanded d os v before row opened ways moves.push (chosen v row) ph is_offered.0 means (pick_reads v row (one v m) once) k.chooses.word_count (push v m) (under v m) a in
        let l : is_lone k.chooses.labels v ≡ true = once_to (trues v k.chooses.labels) (sym (total v m ∙ ap (λ b. (if b then 1 else 0) + trues v k.chooses.labels) (k.chooses.none v (at2 v m))) ∙ once) in
        demanded v m ∙ and_from (is_lone k.chooses.labels v) _ l (and_from (all_offered v picked.labels opened 1 (length picked.labels - 1) && is_word_taken v picked.word ways) (has_room v before.depth d.depth ways moves.push) (and_from (all_offered v picked.labels opened 1 (length picked.labels - 1)) (is_word_taken v picked.word ways) g.offered g.word) g.room)

    builds : BuildsTurn (program_of d) os old mid gates (symbol_of before) (symbol_of after) row k.chooses.other k.chooses.labels dem2
    builds = record {
      truth = k.state.truth;
      symbol = symbol_same d old before k.state;
      row = k.chooses.row;
      begins = k.opens.extends;
      extends = with_then mid s2 gates _ k.chooses.extends later;
      offered = λ v m l h. label_free d os v before k.chooses.labels opened l (k.state.truth.one v (at_old v m)) k.state.cells.same_length (k.opens.equal v m) k.opens.same k.chooses.offered h;
      room = λ v m l word h. word_room d os v before picked.word opened k.chooses.bits l word (k.state.truth.one v (at_old v m)) k.state.cells.same_length (k.opens.equal v m) k.opens.same k.chooses.most k.chooses.room h;
      inside = record {
        labels = AreOf-more s2.variables gates.variables picked.labels grown k.chooses.labels_inside;
        word = AreOf-more s2.variables gates.variables picked.word grown k.chooses.word_inside;
        depth = k.states.depth_inside;
        failure = IsOf-more s4.variables gates.variables moves.fail k.states.extends.grows k.demands.moves.fail_inside;
      };
      depth = refl;
      none = λ v m. k.chooses.none v (at2 v m);
      shows = λ v m. shows d os old s4 gates gates v before after row opened ways moves m k.state ways_fit k.states (push v m) (pop v m) (under v m);
      failure = λ v m. k.demands.moves.fail v (at4 v m) ∙ under_any d os v before row opened ways (λ a. is_fail a.control) (under v m);
      forced = forced;
      free = free;
    }
