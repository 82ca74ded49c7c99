use Rattle.std.proofs.Common.{arith, refl}
use Rattle.clause_form.proofs.Rising.{IsOf-more}
use Rattle.bit_circuit.proofs.Growth.{extends_trans, kept}
use Rattle.turn_unroll.proofs.Making.{truth_more}
use Rattle.turn_unroll.proofs.Waying.{taken_more}
use Rattle.turn_unroll.proofs.stack.moves_of.Goals as goal

pub any_of-requires-2-clause-truth : goal.any_of-requires-2-clause-truth
any_of-requires-2-clause-truth c = truth_more _ _ _ c.requires.truth c.in_ok-push.ensures.extends

pub any_of-requires-2-clause-ways : goal.any_of-requires-2-clause-ways
any_of-requires-2-clause-ways c = taken_more _ _ c.args.ways.now c.in_ok-push.ensures.extends.grows c.requires.ways

pub any_of-requires-3-clause-truth : goal.any_of-requires-3-clause-truth
any_of-requires-3-clause-truth c = truth_more _ _ _ (truth_more _ _ _ c.requires.truth c.in_ok-push.ensures.extends) c.in_ok-pop.ensures.extends

pub any_of-requires-3-clause-ways : goal.any_of-requires-3-clause-ways
any_of-requires-3-clause-ways c = taken_more _ _ c.args.ways.now c.in_ok-pop.ensures.extends.grows (taken_more _ _ c.args.ways.now c.in_ok-push.ensures.extends.grows c.requires.ways)

pub returns : goal.returns
returns c =
    let p = c.in_ok-push.ensures in
    let q = c.in_ok-pop.ensures in
    let r = c.in_ok-fail.ensures in
    record {
      extends = extends_trans _ _ _ p.extends (extends_trans _ _ _ q.extends r.extends);
      push_inside = IsOf-more _ _ _ (omega (arith, q.extends.grows, r.extends.grows)) p.inside;
      pop_inside = IsOf-more _ _ _ r.extends.grows q.inside;
      fail_inside = r.inside;
      push = λ v m. p.equal v (kept q.extends v (kept r.extends v m));
      pop = λ v m. q.equal v (kept r.extends v m);
      fail = λ v m. r.equal v m;
    }
