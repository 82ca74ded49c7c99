use Rattle.std.proofs.Common.{◌∙◌, refl, subst, sym, ap, arith}
use Rattle.clause_form.proofs.Rising.{AreOf-more}
use Rattle.turn_law.specs.Unrolled.{offers_from}
use Rattle.turn_unroll.specs.Cells.{is_open_in}
use Rattle.turn_unroll.specs.Turns.{ChoosesBy, DemandsTurn, StatesBy}
use Rattle.turn_unroll.specs.Ways.{OpensWays, TakesWays, choices_of, offers_of}
use Rattle.turn_unroll.proofs.Fitting.{labels_within}
use Rattle.turn_unroll.proofs.Making.{truth_more}
use Rattle.turn_unroll.proofs.Picking.{state_more, state_with}
use Rattle.turn_unroll.proofs.Proceeding.{label_row, lent_taken, offers_fit, opened_fit, opened_labels}
use Rattle.turn_unroll.proofs.Turned.{turned}
use Rattle.turn_unroll.proofs.Waying.{taken_more}
use Rattle.turn_unroll.proofs.turn.turn.Goals as goal

pub ways_open-requires-clause-fits : goal.ways_open-requires-clause-fits
ways_open-requires-clause-fits c = offers_fit c.args.draft.now (offers_of c.args.offers.now) _ c.requires.shaped c.requires.offers c.len-points.ensures

pub choose-requires-clause-truth : goal.choose-requires-clause-truth
choose-requires-clause-truth c = truth_more _ _ _ c.requires.state.truth c.in_ok-opened.ensures.extends

pub choose-requires-clause-labels : goal.choose-requires-clause-labels
choose-requires-clause-labels c = opened_labels c.args.draft.now (offers_of c.args.offers.now) _ _ c.args.count c.requires.shaped c.requires.offers c.requires.count c.in_ok-opened.ensures.same c.deref.ensures.value

pub ways_taken-requires-clause-truth : goal.ways_taken-requires-clause-truth
ways_taken-requires-clause-truth c = truth_more _ _ _ (truth_more _ _ _ c.requires.state.truth c.in_ok-opened.ensures.extends) c.in_ok-chosen.ensures.extends

pub ways_taken-requires-clause-opened : goal.ways_taken-requires-clause-opened
ways_taken-requires-clause-opened c = lent_taken _ _ c.in_ok-opened.opened.items _ c.in_ok-chosen.ensures.extends.grows c.in_ok-opened.ensures.inside c.deref-2.ensures.value

pub demand_turn-requires-clause-truth : goal.demand_turn-requires-clause-truth
demand_turn-requires-clause-truth c = truth_more _ _ _ (truth_more _ _ _ (truth_more _ _ _ c.requires.state.truth c.in_ok-opened.ensures.extends) c.in_ok-chosen.ensures.extends) c.in_ok-ways.ensures.extends

pub demand_turn-requires-clause-labels : goal.demand_turn-requires-clause-labels
demand_turn-requires-clause-labels c = AreOf-more _ _ c.in_ok-chosen.chosen.labels c.in_ok-ways.ensures.extends.grows c.in_ok-chosen.ensures.labels_inside

pub demand_turn-requires-clause-some : goal.demand_turn-requires-clause-some
demand_turn-requires-clause-some c = let h = label_row _ _ _ _ _ _ _ c.in_ok-chosen.ensures in omega arith

pub demand_turn-requires-clause-word : goal.demand_turn-requires-clause-word
demand_turn-requires-clause-word c = AreOf-more _ _ c.in_ok-chosen.chosen.word c.in_ok-ways.ensures.extends.grows c.in_ok-chosen.ensures.word_inside

pub demand_turn-requires-clause-opened : goal.demand_turn-requires-clause-opened
demand_turn-requires-clause-opened c = lent_taken _ _ c.in_ok-opened.opened.items _ c.in_ok-ways.ensures.extends.grows (taken_more _ _ c.in_ok-opened.opened.items c.in_ok-chosen.ensures.extends.grows c.in_ok-opened.ensures.inside) c.deref-3.ensures.value

pub demand_turn-requires-clause-fits : goal.demand_turn-requires-clause-fits
demand_turn-requires-clause-fits c = labels_within c.args.count _ _ (label_row _ _ _ _ _ _ _ c.in_ok-chosen.ensures) (opened_labels c.args.draft.now (offers_of c.args.offers.now) _ _ c.args.count c.requires.shaped c.requires.offers c.requires.count c.in_ok-opened.ensures.same c.deref-3.ensures.value)

pub demand_turn-requires-clause-depth : goal.demand_turn-requires-clause-depth
demand_turn-requires-clause-depth c = AreOf-more _ _ c.args.before.now.depth c.in_ok-ways.ensures.extends.grows (AreOf-more _ _ c.args.before.now.depth c.in_ok-chosen.ensures.extends.grows (AreOf-more _ _ c.args.before.now.depth c.in_ok-opened.ensures.extends.grows c.requires.state.depth_inside))

pub demand_turn-requires-clause-demands : goal.demand_turn-requires-clause-demands
demand_turn-requires-clause-demands c = AreOf-more _ _ c.choose.new.demands c.in_ok-ways.ensures.extends.grows c.in_ok-chosen.ensures.demands_inside

pub next_state-requires-clause-state : goal.next_state-requires-clause-state
next_state-requires-clause-state c = let d = c.args.draft.now in let b = c.args.before.now in
    state_more d _ _ b (state_more d _ _ b (state_with d _ _ _ b (state_more d _ _ b c.requires.state c.in_ok-opened.ensures.extends) c.in_ok-chosen.ensures.extends) c.in_ok-ways.ensures.extends) c.in_ok-moves.ensures.moves.extends

pub next_state-requires-clause-ways : goal.next_state-requires-clause-ways
next_state-requires-clause-ways c = lent_taken _ _ c.in_ok-ways.ways.items _ c.in_ok-moves.ensures.moves.extends.grows c.in_ok-ways.ensures.inside c.deref-5.ensures.value

pub next_state-requires-clause-fits : goal.next_state-requires-clause-fits
next_state-requires-clause-fits c = opened_fit c.args.draft.now (offers_of c.args.offers.now) _ _ c.requires.shaped c.requires.offers (c.in_ok-ways.ensures.same ∙ ap choices_of c.deref-2.ensures.value ∙ c.in_ok-opened.ensures.same) c.deref-5.ensures.value

pub next_state-requires-clause-word : goal.next_state-requires-clause-word
next_state-requires-clause-word c = AreOf-more _ _ c.in_ok-chosen.chosen.word c.in_ok-moves.ensures.moves.extends.grows (AreOf-more _ _ c.in_ok-chosen.chosen.word c.in_ok-ways.ensures.extends.grows c.in_ok-chosen.ensures.word_inside)

pub require_all-requires : goal.require_all-requires
require_all-requires c = AreOf-more _ _ c.demand_turn.new.demands c.in_ok-state.ensures.extends.grows c.in_ok-moves.ensures.demands.inside

pub returns : goal.returns
returns c =
    let d = c.args.draft.now in
    let before = c.args.before.now in
    let picked = c.in_ok-chosen.chosen in
    let moves = c.in_ok-moves.moves in
    let after = c.in_ok-state.state in
    turned d c.args.circuit.now c.ways_open.new.circuit c.choose.new.circuit c.ways_taken.new.circuit c.demand_turn.new.circuit c.next_state.new.circuit before c.args.count c.new-demands.result c.choose.new.demands c.demand_turn.new.demands c.in_ok-opened.opened.items c.in_ok-ways.ways.items picked moves after (record {
      shaped = c.requires.shaped;
      state = c.requires.state;
      empty = c.new-demands.ensures;
      opens = subst (λ os. OpensWays c.args.circuit.now c.ways_open.new.circuit before.at (is_open_in d.widths before.cells) os c.in_ok-opened.opened.items) c.requires.offers c.in_ok-opened.ensures;
      chooses = subst (λ ws. ChoosesBy c.ways_open.new.circuit c.choose.new.circuit c.new-demands.result c.choose.new.demands ws c.args.count picked) c.deref.ensures.value c.in_ok-chosen.ensures;
      takes = subst (λ ws. TakesWays c.choose.new.circuit c.ways_taken.new.circuit picked.labels ws c.in_ok-ways.ways.items) c.deref-2.ensures.value c.in_ok-ways.ensures;
      demands = subst (λ ws. DemandsTurn c.ways_taken.new.circuit c.demand_turn.new.circuit c.choose.new.demands c.demand_turn.new.demands before.depth d.depth c.in_ok-opened.opened.items ws picked moves) c.deref-4.ensures.value (subst (λ ws. DemandsTurn c.ways_taken.new.circuit c.demand_turn.new.circuit c.choose.new.demands c.demand_turn.new.demands before.depth d.depth ws c.deref-4.result.now picked moves) c.deref-3.ensures.value c.in_ok-moves.ensures);
      states = subst (λ ws. StatesBy d c.demand_turn.new.circuit c.next_state.new.circuit before ws picked.word moves after) c.deref-5.ensures.value c.in_ok-state.ensures;
    }) _ refl c.require_all.new.circuit c.in_ok-require_all.ensures
