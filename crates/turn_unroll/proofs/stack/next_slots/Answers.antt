use Rattle.std.proofs.Common.{arith, subst, sym, ap, length, ◌∙◌}
use Rattle.std.proofs.lemmas.Result.{IfOk-weaker}
use Rattle.clause_form.specs.Literals.{AreOf}
use Rattle.clause_form.proofs.Rising.{AreOf-more, IsOf-more}
use Rattle.turn_unroll.proofs.Making.{rows_more, truth_more}
use Rattle.turn_unroll.proofs.Waying.{slots_made}
use Rattle.turn_unroll.proofs.stack.next_slots.Goals as goal

pub put_left-requires-clause-truth : goal.put_left-requires-clause-truth
put_left-requires-clause-truth c = truth_more _ _ _ c.requires.truth c.in_ok-leave.ensures.extends

pub put_left-requires-clause-push : goal.put_left-requires-clause-push
put_left-requires-clause-push c = IsOf-more _ _ c.args.push c.in_ok-leave.ensures.extends.grows c.requires.push

pub put_left-requires-clause-depth : goal.put_left-requires-clause-depth
put_left-requires-clause-depth c = AreOf-more _ _ c.args.depth.now c.in_ok-leave.ensures.extends.grows c.requires.depth

pub put_left-requires-clause-slots : goal.put_left-requires-clause-slots
put_left-requires-clause-slots c = rows_more _ _ c.args.slots.now c.in_ok-leave.ensures.extends.grows c.requires.slots

pub put_left-requires-clause-leave : goal.put_left-requires-clause-leave
put_left-requires-clause-leave c = subst (AreOf _) (sym c.deref.ensures.value) c.in_ok-leave.ensures.inside

pub returns : goal.returns
returns c = IfOk-weaker _ _ _ (λ r m. slots_made _ _ _ c.args.ways.now c.args.push c.args.depth.now c.args.slots.now _ _ r c.args.points c.deref.ensures.value c.in_ok-leave.ensures m) c.put_left.ensures
