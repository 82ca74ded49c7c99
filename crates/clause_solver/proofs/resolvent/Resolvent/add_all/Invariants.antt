use Rattle.std.proofs.Common.{take}
use Rattle.clause_solver.specs.Resolvent.{Adds}
use Rattle.clause_solver.proofs.resolvent.Resolvent.add_all.Given as goal

abbrev pub invariant-loop-lit : goal.invariant-loop-lit
invariant-loop-lit l =
    Adds l.trail l.fn.self.seen l.fn.self.lower.items (take l.lit-index l.clause) l.self.seen l.self.lower.items l.self.count
