use Rattle.std.proofs.Common.{◌+◌, ◌-◌, ◌*◌, ◌<◌, sym, subst}
use Rattle.clause_solver.specs.Numbering.{clauses_of}
use Rattle.clause_solver.specs.Trail.{unset}
use Rattle.clause_solver.proofs.Ends.{model_end, unset_few, measure_line, measure_choice, from_none}
use Rattle.clause_solver.proofs.search.Search.run.Goals as goal

pub loop-found-smaller-in-Continue-branch-2 : goal.loop-found-smaller-in-Continue-branch-2
loop-found-smaller-in-Continue-branch-2 g c =
    measure_choice ((c.args.budget - c.loop-found.self.lines) * (c.args.formula.now.variables + 1)) c.args.formula.now.variables c.loop-found.self.trail c.propagate.new.trail _ c.push.new.self
    c.in-Some-choice.ensures.some c.in_ok-found.ensures.unset c.in_ok-push-in-Some-choice.ensures.ok

pub returns-in-None-choice-clause-end : goal.returns-in-None-choice-clause-end
returns-in-None-choice-clause-end g c =
    let cs = clauses_of (g.C.ClauseStore.stored c.loop-found.store) c.loop-found.self.numbering in
    model_end c.args.formula.now.variables c.args.formula.now.clauses cs c.loop-found.self.trail c.propagate.new.trail c.loop-found.self.lines c.args.budget (g.K.Keep.lines c.loop-found.keep) c.in_ok-values-in-None-choice.values
    c.loop-found.invariant.search
    c.in_ok-found.ensures.trail
    c.in-None-choice.ensures.none c.in_ok-values-in-None-choice.ensures.same c.in_ok-values-in-None-choice.ensures.count
    (from_none c.in_ok-found.found _ c.in_ok-found.ensures.settled c.in-None.is) c.loop-found.invariant.few

pub loop-found-smaller : goal.loop-found-smaller
loop-found-smaller g c =
    subst (λ k. (c.args.budget - k) * (c.args.formula.now.variables + 1) + unset c.args.formula.now.variables c.learn.new.self.trail < (c.args.budget - c.loop-found.self.lines) * (c.args.formula.now.variables + 1) + unset c.args.formula.now.variables c.loop-found.self.trail)
    (sym c.in_ok-learn-in-Some.ensures.lines)
    (measure_line c.args.budget c.loop-found.self.lines c.args.formula.now.variables (unset c.args.formula.now.variables c.loop-found.self.trail) (unset c.args.formula.now.variables c.learn.new.self.trail)
    c.loop-found.invariant.few c.if-self-budget.false (unset_few c.args.formula.now.variables c.learn.new.self.trail))
