use Rattle.std.proofs.Common.{◌++◌, ◌∷◌, [], sym, ap, ◌∙◌, subst, subst₂, reverse}
use Rattle.clause_form.specs.Literals.{negation}
use Rattle.clause_solver.specs.Analysis.{IsAnalysis}
use Rattle.clause_solver.specs.Learning.{AreNew, IsSorted, IsLearning}
use Rattle.clause_solver.specs.Numbering.{clauses_of}
use Rattle.clause_solver.specs.Resolvent.{Adds}
use Rattle.clause_solver.specs.Trail.{lits_of, below}
use Rattle.clause_solver.proofs.Learned.{learning, line_new}
use Rattle.clause_solver.proofs.Resolving.{trail_fresh, resolvent_start, begins}
use Rattle.clause_solver.proofs.analyze.analyze.Goals as goal

pub add_all-requires-clause-fresh : goal.add_all-requires-clause-fresh
add_all-requires-clause-fresh g c = trail_fresh c.requires.trail.0 (clauses_of (g.C.ClauseStore.stored c.args.store.now) c.args.numbering.now) c.args.trail.now c.requires.trail.1

pub add_all-requires-clause-resolvent : goal.add_all-requires-clause-resolvent
add_all-requires-clause-resolvent g c = resolvent_start c.args.trail.now c.clear.new.self.seen c.clear.new.self.lower.items c.clear.new.self.count c.clear.ensures.seen c.clear.ensures.lower c.clear.ensures.count

pub to_point-requires-clause-begun : goal.to_point-requires-clause-begun
to_point-requires-clause-begun g c =
    subst (λ h. IsAnalysis (clauses_of (g.C.ClauseStore.stored c.args.store.now) c.args.numbering.now) (lits_of c.args.trail.now) (below c.args.trail.now) c.args.trail.now c.add_all.new.self.seen c.add_all.new.self.lower.items c.add_all.new.self.count h)
    (sym (c.in_ok-push.ensures.items ∙ ap (λ x. x ++ c.args.conflict ∷ []) c.new-hints.ensures.items))
    (begins c.requires.trail.0 (clauses_of (g.C.ClauseStore.stored c.args.store.now) c.args.numbering.now) c.args.trail.now c.args.conflict c.clause-clause.result.now c.add_all.new.self.seen c.add_all.new.self.lower.items c.add_all.new.self.count c.requires.trail.1 c.requires.deep c.requires.conflict c.clause-clause.ensures
    (subst₂ (λ m k. Adds c.args.trail.now m k c.clause-clause.result.now c.add_all.new.self.seen c.add_all.new.self.lower.items c.add_all.new.self.count) c.clear.ensures.seen c.clear.ensures.lower c.in_ok-add_all.ensures))

pub clause_of-requires : goal.clause_of-requires
clause_of-requires g c =
    subst AreNew (ap (λ l. c.to_point.new.resolvent.lower.items ++ l ∷ []) (sym c.negated.ensures.negation) ∙ sym c.in_ok-push-2.ensures.items)
    (line_new (clauses_of (g.C.ClauseStore.stored c.args.store.now) c.args.numbering.now) c.args.trail.now c.to_point.new.trail c.to_point.new.resolvent.lower.items c.to_point.new.hints.items c.in_ok-point.point c.requires.trail c.in_ok-point.ensures)

pub returns : goal.returns
returns g c =
    let cs = clauses_of (g.C.ClauseStore.stored c.args.store.now) c.args.numbering.now in
    let s : IsSorted (c.to_point.new.resolvent.lower.items ++ negation c.in_ok-point.point ∷ []) c.in_ok-clause.clause =
    subst (λ x. IsSorted x c.in_ok-clause.clause) (c.in_ok-push-2.ensures.items ∙ ap (λ l. c.to_point.new.resolvent.lower.items ++ l ∷ []) c.negated.ensures.negation) c.in_ok-clause.ensures in
    subst (λ h. IsLearning cs c.args.trail.now (record { clause = c.in_ok-clause.clause; hints = h }) c.to_point.new.trail)
    (sym (c.in_ok-hints.ensures ∙ ap reverse c.as_slice.ensures.value))
    (learning cs c.args.trail.now c.to_point.new.trail c.to_point.new.resolvent.lower.items c.to_point.new.hints.items c.in_ok-point.point c.in_ok-clause.clause c.requires.trail c.requires.deep c.in_ok-point.ensures s)
