use Rattle.std.proofs.Common.{◌≡◌, ◌≤◌, ◌+◌, ◌-◌, ◌*◌, is_some}
use Rattle.clause_solver.specs.Search.{IsSearch}
use Rattle.clause_solver.specs.Numbering.{HasEach, clauses_of}
use Rattle.clause_solver.specs.Trail.{unset}
use Rattle.clause_solver.proofs.search.Search.run.Given as goal

abbrev pub invariant-loop-found : goal.invariant-loop-found
invariant-loop-found g l = record {
  each : HasEach (g.C.ClauseStore.stored l.store) l.self.numbering;
  search : IsSearch l.formula.variables l.formula.clauses (clauses_of (g.C.ClauseStore.stored l.store) l.self.numbering) l.self.trail l.self.lines (g.K.Keep.lines l.keep);
  few : l.self.lines ≤ l.budget;
  later : g.K.Keep.faults l.fn.keep ≤ g.K.Keep.faults l.keep;
  origin : g.K.Keep.origin l.keep ≡ g.K.Keep.origin l.fn.keep;
  told : is_some (g.K.Keep.lines l.keep) ≡ is_some (g.K.Keep.lines l.fn.keep);
}

abbrev pub decreases-loop-found : goal.decreases-loop-found
decreases-loop-found g l = (l.budget - l.self.lines) * (l.formula.variables + 1) + unset l.formula.variables l.self.trail
