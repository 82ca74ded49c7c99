use Rattle.std.proofs.Common.{◌≡◌, drop, max}
use Rattle.clause_solver.specs.Learning.{greatest_level}
use Rattle.clause_solver.proofs.jump.jump_level.Given as goal

abbrev pub invariant-loop-lit : goal.invariant-loop-lit
invariant-loop-lit l = greatest_level l.trail l.clause ≡ max l.level (greatest_level l.trail (drop l.lit-index l.clause))
