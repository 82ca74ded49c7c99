use Rattle.std.proofs.Common.{arith, refl, subst, sym}
use Rattle.clause_form.specs.Literals.{IsOf}
use Rattle.clause_form.proofs.Rising.{AreOf-more}
use Rattle.turn_unroll.proofs.Making.{nth_of, truth_more}
use Rattle.turn_unroll.proofs.Waying.{taken_of, taken_more, takes_none, takes_read, takes_all}
use Rattle.turn_unroll.proofs.ways.ways_taken.Goals as goal

pub loop-i-init : goal.loop-i-init
loop-i-init c = takes_none _ c.args.labels.now c.args.opened.now _ c.new-ways.ensures.items

pub and-requires-clause-a : goal.and-requires-clause-a
and-requires-clause-a c = taken_of _ c.args.opened.now c.loop-i.i _ c.index-opened-i.is (taken_more _ _ c.args.opened.now c.loop-i.invariant.extends.grows c.requires.opened) (omega arith)

pub and-requires-clause-b : goal.and-requires-clause-b
and-requires-clause-b c = subst (IsOf c.loop-i.circuit.variables) (sym c.place.ensures) (nth_of _ c.args.labels.now _ (truth_more _ _ _ c.requires.truth c.loop-i.invariant.extends) (AreOf-more _ _ c.args.labels.now c.loop-i.invariant.extends.grows c.requires.labels))

pub returns : goal.returns
returns c = takes_all _ _ c.args.labels.now c.args.opened.now _ c.loop-i.i (omega arith) c.loop-i.invariant

pub loop-i-preserved : goal.loop-i-preserved
loop-i-preserved c = takes_read _ _ _ c.args.labels.now c.args.opened.now _ _ c.loop-i.i _ _ _ c.index-opened-i.is (omega arith) c.loop-i.invariant c.place.ensures c.in_ok-taken.ensures refl c.in_ok-push.ensures.items
