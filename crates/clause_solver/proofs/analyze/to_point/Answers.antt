use Rattle.std.proofs.Common.{arith, sym, ◌∙◌, subst}
use Rattle.clause_solver.specs.Numbering.{clauses_of}
use Rattle.clause_solver.specs.Trail.{lits_of, below}
use Rattle.clause_solver.specs.Analysis.{IsAnalysis}
use Rattle.clause_solver.proofs.Numbers.{length-clauses_of}
use Rattle.clause_solver.proofs.Resolving.{stops, passes, resolves, reason_within, resolved, analysis_fresh, more_than_one}
use Rattle.clause_solver.proofs.analyze.to_point.Goals as goal

pub returns-then-resolvent-eq1 : goal.returns-then-resolvent-eq1
returns-then-resolvent-eq1 g c =
    let cs = clauses_of (g.C.ClauseStore.stored c.args.store.now) c.args.numbering.now in
    let a = subst (λ t. IsAnalysis cs (lits_of c.args.trail.now) (below c.args.trail.now) t c.loop-entry.resolvent.seen c.loop-entry.resolvent.lower.items c.loop-entry.resolvent.count c.loop-entry.hints.items) c.in-Some.ensures.some c.loop-entry.invariant in
    stops cs (lits_of c.args.trail.now) (below c.args.trail.now) c.pop.new.self c.in-Some.entry c.loop-entry.resolvent.seen c.loop-entry.resolvent.lower.items c.loop-entry.resolvent.count c.loop-entry.hints.items a
    (sym c.has.ensures ∙ c.if-has.true) c.if-resolvent-eq1.true

pub clause-clause-requires-clause-within : goal.clause-clause-requires-clause-within
clause-clause-requires-clause-within g c =
    let cs = clauses_of (g.C.ClauseStore.stored c.args.store.now) c.args.numbering.now in
    let a = subst (λ t. IsAnalysis cs (lits_of c.args.trail.now) (below c.args.trail.now) t c.loop-entry.resolvent.seen c.loop-entry.resolvent.lower.items c.loop-entry.resolvent.count c.loop-entry.hints.items) c.in-Some.ensures.some c.loop-entry.invariant in
    let w = reason_within cs (lits_of c.args.trail.now) (below c.args.trail.now) c.pop.new.self c.in-Some.entry c.loop-entry.resolvent.seen c.loop-entry.resolvent.lower.items c.loop-entry.resolvent.count c.loop-entry.hints.items c.in-Some-reason.number a c.in-Some-reason.is in
    let n = length-clauses_of (g.C.ClauseStore.stored c.args.store.now) c.args.numbering.now in
    omega (arith, w, n)

pub add_all-requires-clause-fresh : goal.add_all-requires-clause-fresh
add_all-requires-clause-fresh g c =
    let cs = clauses_of (g.C.ClauseStore.stored c.args.store.now) c.args.numbering.now in
    let a = subst (λ t. IsAnalysis cs (lits_of c.args.trail.now) (below c.args.trail.now) t c.loop-entry.resolvent.seen c.loop-entry.resolvent.lower.items c.loop-entry.resolvent.count c.loop-entry.hints.items) c.in-Some.ensures.some c.loop-entry.invariant in
    analysis_fresh cs (lits_of c.args.trail.now) (below c.args.trail.now) c.pop.new.self c.in-Some.entry c.loop-entry.resolvent.seen c.loop-entry.resolvent.lower.items c.loop-entry.resolvent.count c.loop-entry.hints.items a

pub add_all-requires-clause-resolvent : goal.add_all-requires-clause-resolvent
add_all-requires-clause-resolvent g c =
    let cs = clauses_of (g.C.ClauseStore.stored c.args.store.now) c.args.numbering.now in
    let a = subst (λ t. IsAnalysis cs (lits_of c.args.trail.now) (below c.args.trail.now) t c.loop-entry.resolvent.seen c.loop-entry.resolvent.lower.items c.loop-entry.resolvent.count c.loop-entry.hints.items) c.in-Some.ensures.some c.loop-entry.invariant in
    resolved cs (lits_of c.args.trail.now) (below c.args.trail.now) c.pop.new.self c.in-Some.entry c.loop-entry.resolvent.seen c.loop-entry.resolvent.lower.items c.loop-entry.resolvent.count c.loop-entry.hints.items c.in-Some-reason.number a
    (sym c.has.ensures ∙ c.if-has.true) c.in-Some-reason.is

pub loop-entry-preserved-in-Continue-branch-2 : goal.loop-entry-preserved-in-Continue-branch-2
loop-entry-preserved-in-Continue-branch-2 g c =
    let cs = clauses_of (g.C.ClauseStore.stored c.args.store.now) c.args.numbering.now in
    let a = subst (λ t. IsAnalysis cs (lits_of c.args.trail.now) (below c.args.trail.now) t c.loop-entry.resolvent.seen c.loop-entry.resolvent.lower.items c.loop-entry.resolvent.count c.loop-entry.hints.items) c.in-Some.ensures.some c.loop-entry.invariant in
    subst (λ h. IsAnalysis cs (lits_of c.args.trail.now) (below c.args.trail.now) c.pop.new.self c.add_all.new.self.seen c.add_all.new.self.lower.items c.add_all.new.self.count h) (sym c.in_ok-push.ensures.items)
    (resolves cs (lits_of c.args.trail.now) (below c.args.trail.now) c.pop.new.self c.in-Some.entry c.loop-entry.resolvent.seen c.loop-entry.resolvent.lower.items c.add_all.new.self.seen c.add_all.new.self.lower.items c.loop-entry.resolvent.count c.add_all.new.self.count c.loop-entry.hints.items c.in-Some-reason.number c.clause-clause.result.now a
    (sym c.has.ensures ∙ c.if-has.true) (more_than_one c.loop-entry.resolvent.count c.loop-entry.invariant.some c.if-resolvent-eq1.false) c.in-Some-reason.is c.clause-clause.ensures c.in_ok-add_all.ensures)

pub loop-entry-preserved : goal.loop-entry-preserved
loop-entry-preserved g c =
    let cs = clauses_of (g.C.ClauseStore.stored c.args.store.now) c.args.numbering.now in
    let a = subst (λ t. IsAnalysis cs (lits_of c.args.trail.now) (below c.args.trail.now) t c.loop-entry.resolvent.seen c.loop-entry.resolvent.lower.items c.loop-entry.resolvent.count c.loop-entry.hints.items) c.in-Some.ensures.some c.loop-entry.invariant in
    passes cs (lits_of c.args.trail.now) (below c.args.trail.now) c.pop.new.self c.in-Some.entry c.loop-entry.resolvent.seen c.loop-entry.resolvent.lower.items c.loop-entry.resolvent.count c.loop-entry.hints.items a
    (sym c.has.ensures ∙ c.if-has.false)
