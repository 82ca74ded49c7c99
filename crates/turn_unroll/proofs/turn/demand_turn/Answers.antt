use Rattle.std.proofs.Common.{arith, refl}
use Rattle.clause_form.proofs.Rising.{AreOf-more, IsOf-more}
use Rattle.turn_unroll.proofs.Making.{truth_more}
use Rattle.turn_unroll.proofs.Waying.{taken_more}
use Rattle.turn_unroll.proofs.Demanding.{demands_after, demands_then}
use Rattle.turn_unroll.proofs.Picking.{moves_more, demands_turn}
use Rattle.turn_unroll.proofs.turn.demand_turn.Goals as goal

pub demand_word-requires-clause-truth : goal.demand_word-requires-clause-truth
demand_word-requires-clause-truth c = truth_more _ _ _ c.requires.truth c.in_ok-demand_offered.ensures.extends

pub demand_word-requires-clause-word : goal.demand_word-requires-clause-word
demand_word-requires-clause-word c = AreOf-more _ _ c.args.chosen.now.word c.in_ok-demand_offered.ensures.extends.grows c.requires.word

pub demand_word-requires-clause-ways : goal.demand_word-requires-clause-ways
demand_word-requires-clause-ways c = taken_more _ _ c.args.ways.now c.in_ok-demand_offered.ensures.extends.grows c.requires.ways

pub moves_of-requires-clause-truth : goal.moves_of-requires-clause-truth
moves_of-requires-clause-truth c = truth_more _ _ _ (truth_more _ _ _ c.requires.truth c.in_ok-demand_offered.ensures.extends) c.in_ok-demand_word.ensures.extends

pub moves_of-requires-clause-ways : goal.moves_of-requires-clause-ways
moves_of-requires-clause-ways c = taken_more _ _ c.args.ways.now c.in_ok-demand_word.ensures.extends.grows (taken_more _ _ c.args.ways.now c.in_ok-demand_offered.ensures.extends.grows c.requires.ways)

pub demand_room-requires-clause-truth : goal.demand_room-requires-clause-truth
demand_room-requires-clause-truth c = truth_more _ _ _ (truth_more _ _ _ (truth_more _ _ _ c.requires.truth c.in_ok-demand_offered.ensures.extends) c.in_ok-demand_word.ensures.extends) c.in_ok-moves.ensures.extends

pub demand_room-requires-clause-depth : goal.demand_room-requires-clause-depth
demand_room-requires-clause-depth c = AreOf-more _ _ c.args.depth.now c.in_ok-moves.ensures.extends.grows (AreOf-more _ _ c.args.depth.now c.in_ok-demand_word.ensures.extends.grows (AreOf-more _ _ c.args.depth.now c.in_ok-demand_offered.ensures.extends.grows c.requires.depth))

pub demand_room-requires-clause-ways : goal.demand_room-requires-clause-ways
demand_room-requires-clause-ways c = taken_more _ _ c.args.ways.now c.in_ok-moves.ensures.extends.grows (taken_more _ _ c.args.ways.now c.in_ok-demand_word.ensures.extends.grows (taken_more _ _ c.args.ways.now c.in_ok-demand_offered.ensures.extends.grows c.requires.ways))

pub demand_room-requires-clause-demands : goal.demand_room-requires-clause-demands
demand_room-requires-clause-demands c = AreOf-more _ _ _ c.in_ok-moves.ensures.extends.grows c.in_ok-demand_word.ensures.inside

pub returns : goal.returns
returns c = demands_turn _ _ _ _ _ _ _ _ _ c.args.depth.now c.args.most c.args.opened.now c.args.ways.now c.args.chosen.now _ c.in_ok-demand_offered.ensures c.in_ok-demand_word.ensures c.in_ok-moves.ensures c.in_ok-demand_room.ensures
