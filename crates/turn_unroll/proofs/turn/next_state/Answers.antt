use Rattle.std.proofs.Common.{refl, subst, sym}
use Rattle.clause_form.proofs.Rising.{AreOf-more, IsOf-more}
use Rattle.turn_unroll.specs.Ways.{AreBelow, choices_of}
use Rattle.turn_unroll.specs.declared.ways.Side.TheVariants.{Below, Top}
use Rattle.turn_unroll.proofs.Making.{rows_more, truth_more}
use Rattle.turn_unroll.proofs.Waying.{taken_more}
use Rattle.turn_unroll.proofs.Fitting.{fit_below, fit_top}
use Rattle.turn_unroll.proofs.Picking.{states_made}
use Rattle.turn_unroll.proofs.turn.next_state.Goals as goal

pub next_at-requires-clause-truth : goal.next_at-requires-clause-truth
next_at-requires-clause-truth c = truth_more _ _ _ c.requires.state.truth c.in_ok-cells.ensures.extends

pub next_at-requires-clause-ways : goal.next_at-requires-clause-ways
next_at-requires-clause-ways c = taken_more _ _ c.args.ways.now c.in_ok-cells.ensures.extends.grows c.requires.ways

pub next_at-requires-clause-fits : goal.next_at-requires-clause-fits
next_at-requires-clause-fits c = subst (λ n. AreBelow Top n (choices_of c.args.ways.now)) (sym c.len-points.ensures) (fit_top _ c.args.draft.now.widths _ c.requires.fits)

pub next_at-requires-clause-depth : goal.next_at-requires-clause-depth
next_at-requires-clause-depth c = AreOf-more _ _ c.args.before.now.depth c.in_ok-cells.ensures.extends.grows c.requires.state.depth_inside

pub next_at-requires-clause-slots : goal.next_at-requires-clause-slots
next_at-requires-clause-slots c = rows_more _ _ c.args.before.now.slots c.in_ok-cells.ensures.extends.grows c.requires.state.slots_inside

pub next_slots-requires-clause-truth : goal.next_slots-requires-clause-truth
next_slots-requires-clause-truth c = truth_more _ _ _ (truth_more _ _ _ c.requires.state.truth c.in_ok-cells.ensures.extends) c.in_ok-at.ensures.extends

pub next_slots-requires-clause-ways : goal.next_slots-requires-clause-ways
next_slots-requires-clause-ways c = taken_more _ _ c.args.ways.now c.in_ok-at.ensures.extends.grows (taken_more _ _ c.args.ways.now c.in_ok-cells.ensures.extends.grows c.requires.ways)

pub next_slots-requires-clause-fits : goal.next_slots-requires-clause-fits
next_slots-requires-clause-fits c = subst (λ n. AreBelow Below n (choices_of c.args.ways.now)) (sym c.len-points.ensures) (fit_below _ c.args.draft.now.widths _ c.requires.fits)

pub next_slots-requires-clause-depth : goal.next_slots-requires-clause-depth
next_slots-requires-clause-depth c = AreOf-more _ _ c.args.before.now.depth c.in_ok-at.ensures.extends.grows (AreOf-more _ _ c.args.before.now.depth c.in_ok-cells.ensures.extends.grows c.requires.state.depth_inside)

pub next_slots-requires-clause-slots : goal.next_slots-requires-clause-slots
next_slots-requires-clause-slots c = rows_more _ _ c.args.before.now.slots c.in_ok-at.ensures.extends.grows (rows_more _ _ c.args.before.now.slots c.in_ok-cells.ensures.extends.grows c.requires.state.slots_inside)

pub next_depth-requires-clause-truth : goal.next_depth-requires-clause-truth
next_depth-requires-clause-truth c = truth_more _ _ _ (truth_more _ _ _ (truth_more _ _ _ c.requires.state.truth c.in_ok-cells.ensures.extends) c.in_ok-at.ensures.extends) c.in_ok-slots.ensures.extends

pub next_depth-requires-clause-depth : goal.next_depth-requires-clause-depth
next_depth-requires-clause-depth c = AreOf-more _ _ c.args.before.now.depth c.in_ok-slots.ensures.extends.grows (AreOf-more _ _ c.args.before.now.depth c.in_ok-at.ensures.extends.grows (AreOf-more _ _ c.args.before.now.depth c.in_ok-cells.ensures.extends.grows c.requires.state.depth_inside))

pub returns : goal.returns
returns c = states_made c.args.draft.now _ _ _ _ _ c.args.before.now c.args.ways.now c.args.word.now c.args.moves _ _ _ _ _ _ c.requires.state c.len-points.ensures c.in_ok-cells.ensures c.in_ok-at.ensures c.in_ok-slots.ensures c.in_ok-depth.ensures refl
