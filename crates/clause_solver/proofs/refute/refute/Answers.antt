use Rattle.std.proofs.Common.{◌++◌, ◌∷◌, [], sym, ap, ◌∙◌, subst, reverse}
use Rattle.clause_solver.specs.Trail.{lits_of}
use Rattle.clause_solver.proofs.Refuting.{IsRefuting}
use Rattle.clause_solver.proofs.Refuting.{refuting_start, refuting_more, refuting_end, flat_tail}
use Rattle.clause_solver.proofs.refute.refute.Goals as goal

pub loop-entry-init : goal.loop-entry-init
loop-entry-init c = record {
  flat = c.requires;
  refuting = λ n cs i con. refuting_start n cs c.args.trail.now c.args.conflict c.push.new.self.items i c.requires con (c.in_ok-push.ensures.items ∙ ap (λ x. x ++ c.args.conflict ∷ []) c.new-hints.ensures.items);
}

pub loop-entry-preserved : goal.loop-entry-preserved
loop-entry-preserved c = record {
  flat = flat_tail c.in-Some.entry c.pop.new.self c.loop-entry.trail c.in-Some.ensures.some c.loop-entry.invariant.flat;
  refuting = λ n cs i con.
      subst (λ h. IsRefuting cs (lits_of c.args.trail.now) c.pop.new.self h) (sym c.in_ok-push-2.ensures.items)
      (refuting_more cs (lits_of c.args.trail.now) c.in-Some.entry c.pop.new.self c.loop-entry.hints.items c.in-Some-reason.number
      (subst (λ t. IsRefuting cs (lits_of c.args.trail.now) t c.loop-entry.hints.items) c.in-Some.ensures.some (c.loop-entry.invariant.refuting n cs i con)) c.in-Some-reason.is);
}

pub returns-clause-derived : goal.returns-clause-derived
returns-clause-derived c = λ n cs i con.
    refuting_end n cs (lits_of c.args.trail.now) c.loop-entry.hints.items c.new-clause.result c.in_ok-hints.hints
    (subst (λ t. IsRefuting cs (lits_of c.args.trail.now) t c.loop-entry.hints.items) c.in_default.ensures.none (c.loop-entry.invariant.refuting n cs i con))
    c.new-clause.ensures (c.in_ok-hints.ensures ∙ ap reverse c.as_slice.ensures.value)
