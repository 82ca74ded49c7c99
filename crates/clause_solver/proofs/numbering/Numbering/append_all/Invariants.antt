use Rattle.std.proofs.Common.{◌≡◌, take}
use Rattle.clause_solver.specs.Numbering.{HasEach, clauses_of}
use Rattle.clause_solver.proofs.numbering.Numbering.append_all.Given as goal

abbrev pub invariant-loop-at : goal.invariant-loop-at
invariant-loop-at g l = record {
  each : HasEach (g.C.ClauseStore.stored l.store) l.self;
  same : clauses_of (g.C.ClauseStore.stored l.store) l.self ≡ take l.at l.clauses;
}
