use Rattle.std.proofs.Common.{arith, subst, sym, ◌&&◌, ◌+◌}
use Rattle.clause_form.specs.ClauseTruth.{is_lit_true}
use Rattle.clause_form.specs.Literals.{IsOf}
use Rattle.clause_form.proofs.Rising.{AreOf-more, IsOf-more}
use Rattle.turn_law.specs.Symbol.{row_true}
use Rattle.turn_unroll.proofs.Making.{and_gives, gives_none, gives_more, gives_all, nth_of, truth_more}
use Rattle.turn_unroll.proofs.stack.popping.Goals as goal

pub loop-d-init : goal.loop-d-init
loop-d-init c = gives_none _ _ (λ v d. is_lit_true v c.args.pop && row_true v c.args.depth.now (d + 1)) c.new-row.ensures.items

pub and-requires-clause-a : goal.and-requires-clause-a
and-requires-clause-a c = IsOf-more _ _ c.args.pop c.loop-d.invariant.extends.grows c.requires.pop

pub and-requires-clause-b : goal.and-requires-clause-b
and-requires-clause-b c = subst (IsOf c.loop-d.circuit.variables) (sym c.place.ensures) (nth_of _ c.args.depth.now _ (truth_more _ _ _ c.requires.truth c.loop-d.invariant.extends) (AreOf-more _ _ c.args.depth.now c.loop-d.invariant.extends.grows c.requires.depth))

pub loop-d-preserved : goal.loop-d-preserved
loop-d-preserved c = gives_more _ _ _ _ _ c.loop-d.d (λ v d. is_lit_true v c.args.pop && row_true v c.args.depth.now (d + 1)) _ c.loop-d.invariant (and_gives _ _ c.args.pop _ _ c.args.depth.now _ c.place.ensures c.in_ok-and.ensures) c.in_ok-push.ensures.items

pub returns : goal.returns
returns c = gives_all _ _ _ _ _ (λ v d. is_lit_true v c.args.pop && row_true v c.args.depth.now (d + 1)) (omega arith) c.loop-d.invariant
