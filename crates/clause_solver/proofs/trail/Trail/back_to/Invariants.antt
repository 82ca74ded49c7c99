use Rattle.std.proofs.Common.{◌≡◌, length}
use Rattle.clause_solver.specs.Trail.{up_to}
use Rattle.clause_solver.proofs.trail.Trail.back_to.Given as goal

abbrev pub invariant-loop-self : goal.invariant-loop-self
invariant-loop-self l = up_to l.level l.self ≡ up_to l.level l.fn.self

abbrev pub decreases-loop-self : goal.decreases-loop-self
decreases-loop-self l = length l.self
