use Rattle.std.proofs.Common.{arith, subst, sym}
use Rattle.clause_form.specs.Literals.{IsOf}
use Rattle.clause_form.proofs.Rising.{AreOf-more, IsOf-more}
use Rattle.turn_unroll.specs.Rows.{depth_made}
use Rattle.turn_unroll.proofs.Making.{before_of, depth_gives, gives_none, gives_more, gives_all, nth_of, truth_more}
use Rattle.turn_unroll.proofs.stack.next_depth.Goals as goal

pub loop-d-init : goal.loop-d-init
loop-d-init c = gives_none _ _ (λ v d. depth_made v c.args.push c.args.pop c.args.depth.now d) c.new-row.ensures

pub depth_step-requires-clause-push : goal.depth_step-requires-clause-push
depth_step-requires-clause-push c = IsOf-more _ _ c.args.push c.loop-d.invariant.extends.grows c.requires.push

pub depth_step-requires-clause-pop : goal.depth_step-requires-clause-pop
depth_step-requires-clause-pop c = IsOf-more _ _ c.args.pop c.loop-d.invariant.extends.grows c.requires.pop

pub depth_step-requires-clause-less : goal.depth_step-requires-clause-less
depth_step-requires-clause-less c = subst (IsOf c.loop-d.circuit.variables) (sym c.place_before-less.ensures) (before_of _ c.args.depth.now _ (truth_more _ _ _ c.requires.truth c.loop-d.invariant.extends) (AreOf-more _ _ c.args.depth.now c.loop-d.invariant.extends.grows c.requires.depth))

pub depth_step-requires-clause-same : goal.depth_step-requires-clause-same
depth_step-requires-clause-same c = subst (IsOf c.loop-d.circuit.variables) (sym c.place-same.ensures) (nth_of _ c.args.depth.now _ (truth_more _ _ _ c.requires.truth c.loop-d.invariant.extends) (AreOf-more _ _ c.args.depth.now c.loop-d.invariant.extends.grows c.requires.depth))

pub depth_step-requires-clause-more : goal.depth_step-requires-clause-more
depth_step-requires-clause-more c = subst (IsOf c.loop-d.circuit.variables) (sym c.place-more.ensures) (nth_of _ c.args.depth.now _ (truth_more _ _ _ c.requires.truth c.loop-d.invariant.extends) (AreOf-more _ _ c.args.depth.now c.loop-d.invariant.extends.grows c.requires.depth))

pub loop-d-preserved : goal.loop-d-preserved
loop-d-preserved c = gives_more _ _ _ _ _ c.loop-d.d (λ v d. depth_made v c.args.push c.args.pop c.args.depth.now d) _ c.loop-d.invariant (depth_gives _ _ c.args.push c.args.pop _ _ _ _ c.args.depth.now c.loop-d.d (truth_more _ _ _ c.requires.truth c.loop-d.invariant.extends) c.place_before-less.ensures c.place-same.ensures c.place-more.ensures c.in_ok-depth_step.ensures) c.in_ok-push.ensures.ok

pub returns : goal.returns
returns c = gives_all _ _ _ _ _ (λ v d. depth_made v c.args.push c.args.pop c.args.depth.now d) (omega arith) c.loop-d.invariant
